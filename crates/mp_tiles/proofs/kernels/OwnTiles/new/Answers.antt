use Rattle.std.proofs.Common.{◌≡◌, length, get_or, sym, ap, subst, ◌∙◌, arith}
use Rattle.mp_defs.specs.Series.{series_of}
use Rattle.mp_defs.specs.Profile.{windows_of, matrix_profile}
use Rattle.mp_defs.specs.SeriesLaws.{series_are_of_samples}
use Rattle.mp_partial.specs.Values.{merged_columns, empty_columns, merged_below}
use Rattle.mp_sums.specs.declared.distances.Grid.{Grid}
use Rattle.mp_cuts.specs.Pairs.{has_pair, no_tile}
use Rattle.mp_cuts.specs.Cutting.{own_tiles}
use Rattle.mp_tiles.specs.Among.{profile_among}
use Rattle.mp_tiles.specs.Laws.{tiles_value}
use Rattle.mp_tiles.specs.Pieces.{sides_value, own_together}
use Rattle.mp_tiles.proofs.ProfileLaws.{make_the_profile}
use Rattle.mp_tiles.proofs.SideLemmas.{sides_together}
use Rattle.mp_tiles.proofs.kernels.OwnTiles.new.Goals as goal

pub returns-clause-together : goal.returns-clause-together
returns-clause-together c =
    let m = c.args.m in
    let a = series_of c.args.samples.now in
    let tiles = c.cut_own.result in
    let same = series_are_of_samples.windows_are m c.args.samples.now in
    subst (λ (g : Grid). own_together (record { samples = g.rows.now; m = g.m; tiles = tiles })
    ≡ sides_value (matrix_profile m a)) (sym c.of-plan.ensures.grid)
    (ap (λ w. merged_below merged_columns (empty_columns 2 w)
    (λ k. sides_value (profile_among (has_pair 0 (get_or tiles k no_tile)) m a)) (length tiles)) (sym same)
    ∙ sides_together m a tiles (matrix_profile m a)
    (ap (tiles_value m a)
    (c.cut_own.ensures.tiles ∙ ap (λ w. own_tiles w c.excl.result c.args.tile) (c.windows-count.ensures ∙ sym same)
    ∙ ap (λ zone. own_tiles (windows_of m a) zone c.args.tile) c.excl.ensures)
    ∙ make_the_profile.own m c.args.tile a (omega arith)))
