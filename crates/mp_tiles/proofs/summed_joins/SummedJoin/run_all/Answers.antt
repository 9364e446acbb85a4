use Rattle.std.proofs.Common.{◌-◌, [], ◌∷◌, sym, ◌∙◌}
use Rattle.std.specs.Prelude.{slice_index_or}
use Rattle.mp_partial.specs.MergeLaws.{columns_merge}
use Rattle.mp_cuts.specs.Pairs.{has_pair, no_tile}
use Rattle.mp_tiles.specs.Pieces.{join_size, join_value, column_has_places, one_column}
use Rattle.mp_tiles.proofs.SeedLemmas.{onto_more}
use Rattle.mp_tiles.proofs.summed_joins.SummedJoin.run_all.Goals as goal

pub loop-piece-init : goal.loop-piece-init
loop-piece-init c = record {
  value = sym ((columns_merge 1).unit_last (join_size c.args.self.now) (c.args.into.now.items ∷ [])
      (one_column (join_size c.args.self.now) c.args.into.now.items c.requires.size));
  size = c.requires.size;
}

pub loop-piece-preserved : goal.loop-piece-preserved
loop-piece-preserved c =
    let join = c.args.self.now in
    let before = c.loop-piece.invariant in
    record {
      value = onto_more 1 (join_size join) (join_value join) c.loop-piece.piece
          (λ k lt. column_has_places (has_pair (join_size join - 1) (slice_index_or join.tiles k no_tile)) join.m join.a
          join.b)
          (c.args.into.now.items ∷ []) _ _ (one_column (join_size join) c.args.into.now.items c.requires.size)
          before.value c.run.ensures.value;
      size = c.run.ensures.size ∙ before.size;
    }
