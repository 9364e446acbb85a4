use Rattle.std.proofs.Common.{◌≡◌, ◌-◌, ◌^◌, ℕ, ◌<◌, length, get_or, min}
use Rattle.mp_stream.proofs.narrow.saturated_sums.Given as goal

abbrev pub invariant-loop-sum : goal.invariant-loop-sum
invariant-loop-sum l = record {
  places : length l.row.items ≡ l.sum-index;
  each : (k : ℕ) → k < l.sum-index → get_or l.row.items k 0 ≡ min (get_or l.sums k 0) (2 ^ 64 - 1);
}
