use Rattle.std.proofs.Common.{◌≡◌, ℕ, ◌+◌, ◌<◌, length, w32, FitsSigned}
use Rattle.std.specs.Prelude.{◌≤ℤ◌}
use Rattle.mp_sums.specs.Residues.{item}
use Rattle.mp_anytime.proofs.found.Found.fill_limits.Given as goal

abbrev pub invariant-loop-k : goal.invariant-loop-k
invariant-loop-k l = record {
  places : length l.limits ≡ length l.initial.limits;
  fit : (q : ℕ) → q < l.k → FitsSigned w32 (item l.limits q);
  rows : (q : ℕ) → q < l.k → item l.self-inside.right.bounds (l.row + q) ≤ℤ item l.limits q;
  columns : (q : ℕ) → q < l.k → item l.self-inside.left.bounds (l.column + q) ≤ℤ item l.limits q;
}
