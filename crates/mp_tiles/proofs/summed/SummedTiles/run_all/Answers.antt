use Rattle.std.proofs.Common.{[], ◌∷◌, sym, ◌∙◌}
use Rattle.std.specs.Prelude.{slice_index_or}
use Rattle.mp_partial.specs.MergeLaws.{columns_merge}
use Rattle.mp_cuts.specs.Pairs.{has_pair, no_tile}
use Rattle.mp_tiles.specs.Pieces.{own_size, own_value, sides_have_columns}
use Rattle.mp_tiles.proofs.SeedLemmas.{onto_more}
use Rattle.mp_tiles.proofs.summed.SummedTiles.run_all.Goals as goal

pub loop-piece-init : goal.loop-piece-init
loop-piece-init c = record {
  value = sym ((columns_merge 2).unit_last (own_size c.args.self.now)
      (c.args.into.now.left ∷ c.args.into.now.right ∷ []) c.requires.is_value);
  size = c.requires.size;
}

pub loop-piece-preserved : goal.loop-piece-preserved
loop-piece-preserved c =
    let own = c.args.self.now in
    let before = c.loop-piece.invariant in
    record {
      value = onto_more 2 (own_size own) (own_value own) c.loop-piece.piece
          (λ k lt. sides_have_columns (has_pair 0 (slice_index_or own.tiles k no_tile)) own.m own.samples)
          (c.args.into.now.left ∷ c.args.into.now.right ∷ []) _ _ c.requires.is_value before.value c.run.ensures.value;
      size = c.run.ensures.size ∙ before.size;
    }
