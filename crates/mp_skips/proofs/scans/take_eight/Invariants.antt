use Rattle.std.proofs.Common.{◌+◌, ◌-◌, ◌*◌, max, min}
use Rattle.mp_scans.specs.Offering.{in_block}
use Rattle.mp_scans.specs.Windows.{FitIn, AreScannedIn}
use Rattle.mp_skips.specs.Needs.{AreStripNeeds}
use Rattle.mp_skips.proofs.scans.take_eight.Given as goal

abbrev pub invariant-loop-l : goal.invariant-loop-l
invariant-loop-l g l =
    let offers = g.O.Offers in
    let grid = l.coarse.plan.grid in
    let r = l.rows in
    record {
      fits : FitIn offers.fits grid l.into;
      scanned : AreScannedIn offers.is_scanned grid
          (in_block (max r.first (8 * l.group - r.row)) (min r.end (8 * (l.group + l.l) - r.row)) r.row
          (r.row + r.count))
          l.initial.into l.into;
      needs_stay : AreStripNeeds l.coarse (offers.keeps_row l.into) (offers.keeps_column l.into) r.first r.row r.count
          l.needs.base l.needs.rows l.needs.groups.now;
    }
