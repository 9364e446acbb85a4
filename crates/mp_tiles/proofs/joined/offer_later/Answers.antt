use Rattle.std.proofs.Common.{sym, ◌∙◌}
use Rattle.mp_scans.specs.Offering.{in_block}
use Rattle.mp_scans.specs.Windows.{row_windows, column_windows}
use Rattle.mp_tiles.proofs.JoinedLemmas.{rows_ahead}
use Rattle.mp_tiles.proofs.joined.offer_later.Goals as goal

pub returns : goal.returns
returns c =
    let grid = c.args.coarse.now.plan.grid in
    record {
      ahead =
          rows_ahead grid (in_block 0 (column_windows grid) 0 (row_windows grid)) c.args.into.now c.scan_seeds.new.into
          c.scan_seeds.ensures.ahead (c.scan_seeds.ensures.fits ∙ sym c.requires.places);
    }
