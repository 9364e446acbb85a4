use Rattle.std.proofs.Common.{[], length, map, sym, ap, ◌∙◌, arith}
use Rattle.std.proofs.lemmas.Option.{get_or_from_slice_get}
use Rattle.mp_defs.specs.Series.{series_of}
use Rattle.mp_defs.specs.Window.{windows}
use Rattle.mp_results.specs.Multi.{windows_in}
use Rattle.mp_partial.specs.Values.{merged_columns, empty_columns, merged_below}
use Rattle.mp_cuts.specs.Cutting.{own_tiles}
use Rattle.mp_multi.specs.Tiles.{tile_value, tiles_value}
use Rattle.mp_multi.specs.TilingLaws.{windows_of_channels}
use Rattle.mp_multi.proofs.TileLaws.{make_the_multi}
use Rattle.mp_multi.proofs.kernels.MultiTiles.new.Goals as goal

pub returns-clause-together : goal.returns-clause-together
returns-clause-together g c =
    let m = c.args.m in
    let k = c.args.k in
    let channels = map series_of c.args.channels.now in
    let tiles = c.cut_own.result in
    let same = windows_of_channels m c.args.channels.now in
    ap (λ w. merged_below merged_columns (empty_columns 1 w) (tile_value m k channels tiles) (length tiles)) same
    ∙ ap (tiles_value m k channels)
    (c.cut_own.ensures.tiles ∙ ap (λ w. own_tiles w c.excl.result c.args.tile)
    (c.windows-count.ensures
    ∙ ap (λ samples. windows (length samples) m)
    (sym (get_or_from_slice_get c.args.channels.now 0 c.series.result.now [] c.series.ensures)) ∙ same)
    ∙ ap (λ zone. own_tiles (windows_in m channels) zone c.args.tile) c.excl.ensures)
    ∙ make_the_multi.own m k c.args.tile channels (omega arith)
