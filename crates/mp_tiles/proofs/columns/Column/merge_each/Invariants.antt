use Rattle.std.proofs.Common.{◌≡◌}
use Rattle.mp_tiles.proofs.ColumnLemmas.{AreMergedBelow}
use Rattle.mp_tiles.proofs.columns.Column.merge_each.Given as goal

abbrev pub invariant-loop-k : goal.invariant-loop-k
invariant-loop-k l = record {
  merged : AreMergedBelow l.k l.initial.self.slots l.other.slots l.self.slots;
  room : l.self.room ≡ l.initial.self.room;
}
