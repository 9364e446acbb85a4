use Rattle.std.proofs.Common.{[], ◌∷◌, ap, ◌∙◌}
use Rattle.mp_defs.specs.Series.{series_of}
use Rattle.mp_partial.specs.Values.{Value, merged_columns}
use Rattle.mp_cuts.specs.Pairs.{has_pair}
use Rattle.mp_tiles.specs.Among.{profile_among}
use Rattle.mp_tiles.specs.Pieces.{sides_value}
use Rattle.mp_tiles.proofs.summed.SummedTilesKernel.run.Goals as goal

pub returns-clause-value : goal.returns-clause-value
returns-clause-value c =
    let own = c.args.self.now in
    let old : Value = c.args.into.now.left ∷ c.args.into.now.right ∷ [] in
    c.run_tile.ensures.value
    ∙ ap (λ t. merged_columns old (sides_value (profile_among (has_pair 0 t) own.m (series_of own.samples))))
    c.tile.ensures.is
