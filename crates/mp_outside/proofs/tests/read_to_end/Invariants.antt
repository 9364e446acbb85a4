use Rattle.std.proofs.Common.{◌≡◌, ◌++◌, List, ℕ, Some}
use Rattle.std.specs.Option.{ForSome}
use Rattle.mp_outside.proofs.tests.read_to_end.Given as goal

-- where the source tells what is left, this stands behind what was read
abbrev pub invariant-loop : goal.invariant-loop
invariant-loop g l =
    ForSome (g.S.Source.left l.initial.source)
    (λ bytes. (rest : List ℕ) × (g.S.Source.left l.source ≡ Some rest) × (l.all.items ++ rest ≡ bytes))
