use Rattle.std.proofs.Common.{◌≡◌, ◌+◌, ◌≤◌, length, take}
use Rattle.mp_series.proofs.counted_list.Samples.push_each.Given as goal

abbrev pub invariant-loop-sample : goal.invariant-loop-sample
invariant-loop-sample l = record {
  items : l.self.items ≡ take l.sample-index l.series;
  reads : l.self.reads ≡ l.fn.self.reads;
  room : length l.series ≤ l.self.spare + l.sample-index;
}
