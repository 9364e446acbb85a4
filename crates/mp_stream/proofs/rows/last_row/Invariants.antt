use Rattle.std.proofs.Common.{◌≡◌, ℕ, ◌+◌, ◌-◌, ◌*◌, ◌<◌, ◌≤◌, length, get_or}
use Rattle.mp_series.specs.Samples.{numbers_in}
use Rattle.mp_stream.specs.Rows.{sum_at}
use Rattle.mp_stream.proofs.rows.last_row.Given as goal

abbrev pub invariant-loop-i : goal.invariant-loop-i
invariant-loop-i l = record {
  places : length l.row.items ≡ l.i;
  sums : (k : ℕ) → k < l.i → get_or l.row.items k 0 ≡ sum_at (numbers_in l.fn.samples.items) l.m k (l.count - 1);
  items : l.samples.items ≡ l.fn.samples.items;
  rise : l.fn.samples.reads ≤ l.samples.reads;
  reads : l.samples.reads ≤ l.fn.samples.reads + l.i * (2 * l.m);
}
