use Rattle.std.proofs.Common.{◌+◌, ◌<◌, length, sym, ap, subst, ◌∙◌, arith}
use Rattle.std.specs.Int.{div_ceil}
use Rattle.mp_defs.specs.Window.{excl}
use Rattle.mp_cuts.specs.Pairs.{IsTileBetween, no_tile}
use Rattle.mp_tiles.specs.Near.{bands_of}
use Rattle.mp_tiles.specs.NearLaws.{bands_count, band_is, band_between}
use Rattle.mp_multi.specs.Tiling.{window_count}
use Rattle.mp_multi.proofs.PieceLemmas.{piece_taken}
use Rattle.mp_multi.proofs.near.NearMultiKernel.run.Goals as goal

pub tile-requires-clause-band : goal.tile-requires-clause-band
tile-requires-clause-band g c =
    omega (arith, c.requires.piece, ap (λ own. length own.tiles) c.self.view_is, bands_count c.self.inside.bands)

pub scan_fast-requires-clause-tile : goal.scan_fast-requires-clause-tile
scan_fast-requires-clause-tile g c =
    let own = c.self.inside in
    let w = window_count own.m own.channels.now in
    let lt : c.args.piece < div_ceil own.bands.rows own.bands.height =
    omega (arith, c.requires.piece, ap (λ own. length own.tiles) c.self.view_is, bands_count own.bands) in
    subst (IsTileBetween (excl own.m + 1) w w) (sym c.tile.ensures)
    (band_between (excl own.m + 1) w own.bands c.args.piece c.self.invariant.are_bands lt)

pub returns-clause-value : goal.returns-clause-value
returns-clause-value g c =
    let own = c.self.inside in
    let lt : c.args.piece < div_ceil own.bands.rows own.bands.height =
    omega (arith, c.requires.piece, ap (λ own. length own.tiles) c.self.view_is, bands_count own.bands) in
    piece_taken (record { channels = own.channels.now; m = own.m; k = own.k; tiles = bands_of own.bands })
    c.args.self.now c.args.piece c.tile.result c.args.into.now.items c.scan_fast.new.into.items c.self.view_is
    (band_is own.bands c.args.piece no_tile lt ∙ sym c.tile.ensures)
    c.scan_fast.ensures.items
