use Rattle.std.proofs.Common.{ℕ, ◌<◌}
use Rattle.std.specs.Prelude.{◌≤ℤ◌}
use Rattle.mp_sums.specs.Residues.{item}
use Rattle.mp_anytime.proofs.bounds.greatest_of.Given as goal

abbrev pub invariant-loop-k : goal.invariant-loop-k
invariant-loop-k l = (q : ℕ) → q < l.k → item l.bounds q ≤ℤ l.greatest
