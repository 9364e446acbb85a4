use Rattle.std.proofs.Common.{◌≡◌, ℕ, [], ◌∷◌, length, sym, ap, subst, ◌∙◌, arith}
use Rattle.mp_defs.specs.Series.{series_of}
use Rattle.mp_defs.specs.Window.{windows}
use Rattle.mp_defs.specs.Profile.{ab_join}
use Rattle.mp_tiles.specs.Pieces.{JoinTiling, join_size, join_together}
use Rattle.mp_tiles.proofs.JoinLaws.{together_join}
use Rattle.mp_tiles.proofs.joins.JoinTiles.wide.Goals as goal

pub returns-clause-together : goal.returns-clause-together
returns-clause-together c =
    let plan = c.self.inside.plan in
    let a = plan.grid.rows.now in
    let b = plan.grid.columns.now in
    let m = plan.grid.m in
    let tiles = c.cut_both.result in
    subst (λ (j : JoinTiling). join_together (record { a = a; b = b; m = m; tiles = tiles })
    ≡ ab_join j.m (series_of j.a) (series_of j.b) ∷ []) c.self.view_is
    (together_join m c.args.tile a b c.size.result c.windows-second.result tiles (omega arith)
    (c.size.ensures ∙ sym (ap join_size c.self.view_is))
    (c.windows-second.ensures ∙ ap (λ (n : ℕ). windows (length b) n) plan.same_length) c.cut_both.ensures.tiles)
