use Rattle.std.proofs.Common.{◌≡◌}
use Rattle.mp_tiles.proofs.ColumnLemmas.{AreClearBelow}
use Rattle.mp_tiles.proofs.columns.Column.clear.Given as goal

abbrev pub invariant-loop-k : goal.invariant-loop-k
invariant-loop-k l = record {
  clear : AreClearBelow l.k l.initial.self.slots l.self.slots;
  room : l.self.room ≡ l.initial.self.room;
}
