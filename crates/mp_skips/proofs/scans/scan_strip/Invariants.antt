use Rattle.std.proofs.Common.{◌+◌, ◌-◌, ◌*◌, ◌≤◌, min}
use Rattle.mp_scans.specs.Offering.{in_block}
use Rattle.mp_scans.specs.Windows.{FitIn, AreScannedIn}
use Rattle.mp_skips.specs.Needs.{AreStripNeeds}
use Rattle.mp_skips.proofs.scans.scan_strip.Given as goal

abbrev pub invariant-loop-group : goal.invariant-loop-group
invariant-loop-group g l =
    let offers = g.O.Offers in
    let grid = l.coarse.plan.grid in
    let r = l.rows in
    record {
      after : l.needs.base ≤ l.group;
      small : 8 * l.group ≤ r.row + r.first + l.stop + 64;
      fits : FitIn offers.fits grid l.into;
      scanned : AreScannedIn offers.is_scanned grid
          (in_block r.first (min r.end (8 * l.group - r.row)) r.row (r.row + r.count)) l.initial.into l.into;
      needs_stay : AreStripNeeds l.coarse (offers.keeps_row l.into) (offers.keeps_column l.into) r.first r.row r.count
          l.needs.base l.needs.rows l.needs.groups.now;
    }

abbrev pub decreases-loop-group : goal.decreases-loop-group
decreases-loop-group g l = l.stop - 8 * l.group
