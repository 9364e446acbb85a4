use Rattle.std.proofs.Common.{◌≡◌, ◌+◌}
use Rattle.std.specs.Prelude.{vec_capacity}
use Rattle.mp_tiles.proofs.ColumnLemmas.{AreBoundsBelow}
use Rattle.mp_tiles.proofs.columns.Column.round_by.Given as goal

abbrev pub invariant-loop-k : goal.invariant-loop-k
invariant-loop-k l = record {
  slots : l.self-inside.slots.items ≡ l.fn.self.slots;
  bounds : AreBoundsBelow l.k l.rounding.m l.rounding.shift l.self-inside.slots.items l.self-inside.bounds.items;
  room : vec_capacity l.self-inside.slots + vec_capacity l.self-inside.bounds ≡ l.fn.self.room;
}
