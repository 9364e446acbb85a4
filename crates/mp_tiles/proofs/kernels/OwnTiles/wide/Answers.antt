use Rattle.std.proofs.Common.{◌≡◌, length, get_or, sym, ap, subst, ◌∙◌, arith}
use Rattle.mp_defs.specs.Series.{series_of}
use Rattle.mp_defs.specs.Window.{excl}
use Rattle.mp_defs.specs.Profile.{windows_of, matrix_profile}
use Rattle.mp_defs.specs.SeriesLaws.{series_are_of_samples}
use Rattle.mp_partial.specs.Values.{merged_columns, empty_columns, merged_below}
use Rattle.mp_cuts.specs.Pairs.{has_pair, no_tile}
use Rattle.mp_cuts.specs.Cutting.{own_tiles}
use Rattle.mp_tiles.specs.Among.{profile_among}
use Rattle.mp_tiles.specs.Laws.{tiles_value}
use Rattle.mp_tiles.specs.Pieces.{OwnTiling, own_size, sides_value, own_together}
use Rattle.mp_tiles.proofs.ProfileLaws.{make_the_profile}
use Rattle.mp_tiles.proofs.SideLemmas.{sides_together}
use Rattle.mp_tiles.proofs.kernels.OwnTiles.wide.Goals as goal

pub returns-clause-together : goal.returns-clause-together
returns-clause-together c =
    let plan = c.self.inside.plan in
    let samples = plan.grid.rows.now in
    let m = plan.grid.m in
    let a = series_of samples in
    let tiles = c.cut_own.result in
    let same = series_are_of_samples.windows_are m samples in
    let count : c.size.result ≡ windows_of m a = c.size.ensures ∙ sym (ap own_size c.self.view_is) ∙ sym same in
    let zone : c.excl.result ≡ excl m = c.excl.ensures ∙ ap excl plan.same_length in
    subst (λ (own : OwnTiling). own_together (record { samples = samples; m = m; tiles = tiles })
    ≡ sides_value (matrix_profile own.m (series_of own.samples))) c.self.view_is
    (ap (λ w. merged_below merged_columns (empty_columns 2 w)
    (λ k. sides_value (profile_among (has_pair 0 (get_or tiles k no_tile)) m a)) (length tiles)) (sym same)
    ∙ sides_together m a tiles (matrix_profile m a)
    (ap (tiles_value m a)
    (c.cut_own.ensures.tiles ∙ ap (λ w. own_tiles w c.excl.result c.args.tile) count
    ∙ ap (λ e. own_tiles (windows_of m a) e c.args.tile) zone)
    ∙ make_the_profile.own m c.args.tile a (omega arith)))
