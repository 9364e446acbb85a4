use Rattle.std.proofs.Common.{◌+◌, ◌<◌, length, sym, ap, subst, ◌∙◌, arith}
use Rattle.std.specs.Int.{div_ceil}
use Rattle.mp_defs.specs.Window.{windows, excl}
use Rattle.mp_cuts.specs.Pairs.{IsTileBetween, no_tile}
use Rattle.mp_tiles.specs.Pieces.{own_size}
use Rattle.mp_tiles.specs.Near.{bands_of}
use Rattle.mp_tiles.specs.NearLaws.{bands_count, band_is, band_between}
use Rattle.mp_topk.proofs.Taken.{piece_taken}
use Rattle.mp_topk.proofs.near.NearRanksKernel.run.Goals as goal

pub tile-requires-clause-band : goal.tile-requires-clause-band
tile-requires-clause-band g c =
    omega (arith, c.requires.piece, ap (λ own. length own.tiles) c.self.view_is, bands_count c.self.inside.bands)

pub take_tile-requires : goal.take_tile-requires
take_tile-requires g c =
    let grid = c.self.inside.plan.grid in
    let bands = c.self.inside.bands in
    let w = windows (length grid.rows.now) grid.m in
    let lt : c.args.piece < div_ceil bands.rows bands.height =
    omega (arith, c.requires.piece, ap (λ own. length own.tiles) c.self.view_is, bands_count bands) in (
      omega arith,
      (
        c.self.invariant.same,
        (
          subst (IsTileBetween (excl grid.m + 1) w w) (sym c.tile.ensures)
              (band_between (excl grid.m + 1) w bands c.args.piece c.self.invariant.are_bands lt),
          c.requires.size ∙ sym (ap own_size c.self.view_is),
        ),
      ),
    )

pub returns-clause-value : goal.returns-clause-value
returns-clause-value g c =
    let grid = c.self.inside.plan.grid in
    let bands = c.self.inside.bands in
    let lt : c.args.piece < div_ceil bands.rows bands.height =
    omega (arith, c.requires.piece, ap (λ own. length own.tiles) c.self.view_is, bands_count bands) in
    piece_taken g.row.K (record { samples = grid.rows.now; m = grid.m; tiles = bands_of bands }) c.args.self.now
    c.args.piece c.tile.result c.args.into.now.lists c.take_tile.new.into.lists c.self.view_is
    (band_is bands c.args.piece no_tile lt ∙ sym c.tile.ensures)
    c.take_tile.ensures.value
