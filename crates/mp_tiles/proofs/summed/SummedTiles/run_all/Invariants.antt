use Rattle.std.proofs.Common.{◌≡◌, [], ◌∷◌, length}
use Rattle.mp_partial.specs.Values.{merged_below, merged_columns, empty_columns}
use Rattle.mp_tiles.specs.Pieces.{own_size, own_value}
use Rattle.mp_tiles.proofs.summed.SummedTiles.run_all.Given as goal

abbrev pub invariant-loop-piece : goal.invariant-loop-piece
invariant-loop-piece l = record {
  value : l.into.left ∷ l.into.right ∷ [] ≡ merged_columns (l.initial.into.left ∷ l.initial.into.right ∷ [])
      (merged_below merged_columns (empty_columns 2 (own_size l.self)) (own_value l.self) l.piece);
  size : length l.into.left ≡ own_size l.self;
}
