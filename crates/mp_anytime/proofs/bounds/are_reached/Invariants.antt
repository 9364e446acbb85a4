use Rattle.std.proofs.Common.{◌≡◌, ℕ, ◌<◌, false}
use Rattle.std.specs.Prelude.{◌<ℤ◌}
use Rattle.mp_sums.specs.Residues.{item}
use Rattle.mp_anytime.proofs.bounds.are_reached.Given as goal

abbrev pub invariant-loop-k : goal.invariant-loop-k
invariant-loop-k l = l.some ≡ false → (q : ℕ) → q < l.k → item l.bounds q <ℤ item l.residues q
