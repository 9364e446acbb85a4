use Rattle.std.proofs.Common.{◌≡◌, [], ◌∷◌, subst}
use Rattle.mp_defs.specs.Series.{series_of}
use Rattle.mp_partial.specs.Values.{Value, merged_columns}
use Rattle.mp_cuts.specs.Pairs.{has_pair}
use Rattle.mp_tiles.specs.Among.{profile_among}
use Rattle.mp_tiles.specs.Pieces.{OwnTiling, sides_value}
use Rattle.mp_tiles.proofs.summed.SummedTiles.run_tile.Goals as goal

pub returns-clause-value : goal.returns-clause-value
returns-clause-value c =
    let old : Value = c.args.into.now.left ∷ c.args.into.now.right ∷ [] in
    let new : Value = c.take_by_sums.new.self.left ∷ c.take_by_sums.new.self.right ∷ [] in
    subst (λ (own : OwnTiling). new ≡ merged_columns old
    (sides_value (profile_among (has_pair 0 c.args.tile.now) own.m (series_of own.samples)))) c.self.view_is
    c.take_by_sums.ensures.value
