use Rattle.std.proofs.Common.{ℕ}
use Rattle.mp_tiles.specs.Compact.{AreBounds}
use Rattle.mp_tiles.proofs.ColumnLemmas.{AreMergedBelow}
use Rattle.mp_tiles.proofs.columns.merge_alike.Given as goal

abbrev pub invariant-loop-k : goal.invariant-loop-k
invariant-loop-k l = record {
  slots : AreMergedBelow l.k l.initial.slots l.others l.slots;
  bounds : (m shift : ℕ) → AreBounds m shift l.initial.slots l.initial.bounds
      → AreBounds m shift l.others l.other_bounds → AreBounds m shift l.slots l.bounds;
}
