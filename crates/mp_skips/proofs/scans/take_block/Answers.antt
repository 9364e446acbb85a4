use Rattle.std.proofs.Common.{◌*◌, arith}
use Rattle.mp_skips.proofs.BlockLemmas.{reached, row_within, column_within}
use Rattle.mp_skips.proofs.PairLemmas.{quiet_block}
use Rattle.mp_skips.proofs.scans.take_block.Goals as goal

pub returns-then-is_reached : goal.returns-then-is_reached
returns-then-is_reached g c =
    let r = c.args.rows.now in
    let coarse = c.args.coarse.now in
    record {
      scanned = quiet_block g.met.O.Offers.limits coarse c.args.into.now r.first r.end r.row r.count c.args.group
          c.args.need c.requires.apart c.requires.count c.requires.rows_need c.requires.columns_need
          (reached coarse r.row c.args.group c.args.need
          (row_within coarse r.row (omega (arith, c.requires.are_rows, c.requires.some)))
          (column_within coarse (8 * c.args.group) c.requires.column)
          (omega (arith, c.is_reached.ensures c.if-is_reached.true, c.requires.sum)))
          (omega (arith, c.is_reached.ensures c.if-is_reached.true, c.requires.small)) c.requires.fits;
    }
