use Rattle.std.proofs.Common.{length}
use Rattle.std.specs.List.{IsFirstMaxByKey}
use Rattle.mp_chains.proofs.lengths.longest.Given as goal

abbrev pub invariant-loop-place : goal.invariant-loop-place
invariant-loop-place l = IsFirstMaxByKey (λ chain. length chain.items) l.chains l.place l.longest
