use Rattle.std.proofs.Common.{◌≡◌, length, map, sym, ap, subst, ◌∙◌, arith}
use Rattle.mp_defs.specs.Series.{series_of}
use Rattle.mp_defs.specs.Profile.{windows_of}
use Rattle.mp_defs.specs.SeriesLaws.{series_are_of_samples}
use Rattle.mp_partial.specs.Values.{merged_below}
use Rattle.mp_sums.specs.declared.distances.Grid.{Grid}
use Rattle.mp_cuts.specs.Cutting.{own_tiles}
use Rattle.mp_results.specs.Ranks.{ranks_of}
use Rattle.mp_topk.specs.Ranking.{merged_ranks, no_ranks, slots_of}
use Rattle.mp_topk.specs.Tiling.{ranks_together, tile_value, tiles_value}
use Rattle.mp_topk.specs.TileLaws.{make_the_ranks}
use Rattle.mp_topk.proofs.kernels.RankTiles.new.Goals as goal

pub returns-clause-together : goal.returns-clause-together
returns-clause-together g c =
    let m = c.args.m in
    let a = series_of c.args.samples.now in
    let tiles = c.cut_own.result in
    let same = series_are_of_samples.windows_are m c.args.samples.now in
    subst (λ (x : Grid). ranks_together g.row.K (record { samples = x.rows.now; m = x.m; tiles = tiles })
    ≡ map slots_of (ranks_of g.row.K m a)) (sym c.of-plan.ensures.grid)
    (ap (λ w. merged_below (merged_ranks g.row.K) (no_ranks w) (tile_value g.row.K m a tiles) (length tiles)) (sym same)
    ∙ ap (tiles_value g.row.K m a)
    (c.cut_own.ensures.tiles ∙ ap (λ w. own_tiles w c.excl.result c.args.tile) (c.windows-count.ensures ∙ sym same)
    ∙ ap (λ zone. own_tiles (windows_of m a) zone c.args.tile) c.excl.ensures)
    ∙ make_the_ranks g.row.K m c.args.tile a (omega (arith, c.requires.least)))
