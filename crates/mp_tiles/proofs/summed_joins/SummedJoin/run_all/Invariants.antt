use Rattle.std.proofs.Common.{◌≡◌, [], ◌∷◌, length}
use Rattle.mp_partial.specs.Values.{merged_below, merged_columns, empty_columns}
use Rattle.mp_tiles.specs.Pieces.{join_size, join_value}
use Rattle.mp_tiles.proofs.summed_joins.SummedJoin.run_all.Given as goal

abbrev pub invariant-loop-piece : goal.invariant-loop-piece
invariant-loop-piece l = record {
  value : l.into.items ∷ [] ≡ merged_columns (l.initial.into.items ∷ [])
      (merged_below merged_columns (empty_columns 1 (join_size l.self)) (join_value l.self) l.piece);
  size : length l.into.items ≡ join_size l.self;
}
