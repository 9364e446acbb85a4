use Rattle.std.proofs.Common.{◌≡◌, ℕ, ◌<◌, length, w32, ◌+ℤ◌, ◌-ℤ◌}
use Rattle.std.specs.Int.{int_wrap}
use Rattle.mp_sums.specs.Residues.{item}
use Rattle.mp_sums.proofs.residues.fill_changes.Given as goal

abbrev pub invariant-loop-k : goal.invariant-loop-k
invariant-loop-k l = record {
  difference_places : length l.differences ≡ length l.initial.differences;
  sum_places : length l.sums ≡ length l.initial.sums;
  differences : (q : ℕ) → q < l.k → item l.differences q ≡ int_wrap w32 (item l.enters q -ℤ item l.leaves q);
  sums : (q : ℕ) → q < l.k → item l.sums q ≡ int_wrap w32 (item l.enters q +ℤ item l.leaves q);
}
