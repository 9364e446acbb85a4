use Rattle.std.proofs.Common.{◌≡◌, length, map, refl, sym, ap, subst, ◌∙◌, arith}
use Rattle.mp_defs.specs.Series.{series_of}
use Rattle.mp_defs.specs.Window.{windows, excl}
use Rattle.mp_cuts.specs.Cutting.{own_tiles}
use Rattle.mp_tiles.specs.Pieces.{OwnTiling, own_size}
use Rattle.mp_results.specs.Ranks.{ranks_of}
use Rattle.mp_topk.specs.Ranking.{merged_ranks, slots_of}
use Rattle.mp_topk.specs.Tiling.{ranks_together}
use Rattle.mp_topk.proofs.NearLemmas.{near_and_others}
use Rattle.mp_topk.proofs.near.NearRanks.others.Goals as goal

pub returns-clause-together : goal.returns-clause-together
returns-clause-together g c =
    let plan = c.self.inside.plan in
    let bands = c.self.inside.bands in
    let far : OwnTiling = record { samples = plan.grid.rows.now; m = plan.grid.m; tiles = c.cut_own.result } in
    let w = windows (length plan.grid.rows.now) plan.grid.m in
    let size : c.size.result ≡ w = c.size.ensures ∙ sym (ap own_size c.self.view_is) in
    subst (λ (own : OwnTiling). merged_ranks g.row.K (ranks_together g.row.K own) (ranks_together g.row.K far)
    ≡ map slots_of (ranks_of g.row.K own.m (series_of own.samples)))
    c.self.view_is
    (near_and_others g.row.K plan.grid.rows.now plan.grid.m (excl plan.grid.m) w c.args.tile bands c.cut_own.result
    refl refl (omega arith) c.self.invariant.are_bands
    (c.cut_own.ensures.tiles ∙ ap (λ count. own_tiles count c.last.result c.args.tile) size
    ∙ ap (λ last. own_tiles w last c.args.tile) c.last.ensures))
