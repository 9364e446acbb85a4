use Rattle.std.proofs.Common.{◌≡◌, length, refl, sym, ap, subst, ◌∙◌, arith}
use Rattle.mp_defs.specs.Series.{series_of}
use Rattle.mp_defs.specs.Window.{windows, excl}
use Rattle.mp_defs.specs.Profile.{matrix_profile}
use Rattle.mp_partial.specs.Values.{merged_columns}
use Rattle.mp_cuts.specs.Cutting.{own_tiles}
use Rattle.mp_tiles.specs.Pieces.{OwnTiling, own_size, sides_value, own_together}
use Rattle.mp_tiles.proofs.NearLemmas.{near_and_others}
use Rattle.mp_tiles.proofs.near.NearTiles.others.Goals as goal

pub returns-clause-together : goal.returns-clause-together
returns-clause-together c =
    let plan = c.self.inside.plan in
    let bands = c.self.inside.bands in
    let far : OwnTiling = record { samples = plan.grid.rows.now; m = plan.grid.m; tiles = c.cut_own.result } in
    let w = windows (length plan.grid.rows.now) plan.grid.m in
    let size : c.size.result ≡ w = c.size.ensures ∙ sym (ap own_size c.self.view_is) in
    subst (λ (own : OwnTiling). merged_columns (own_together own) (own_together far)
    ≡ sides_value (matrix_profile own.m (series_of own.samples)))
    c.self.view_is
    (near_and_others plan.grid.rows.now plan.grid.m (excl plan.grid.m) w c.args.tile bands c.cut_own.result refl refl
    (omega arith) c.self.invariant.are_bands
    (c.cut_own.ensures.tiles ∙ ap (λ count. own_tiles count bands.last c.args.tile) size))
