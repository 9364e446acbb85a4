use Rattle.std.proofs.Common.{◌-◌, ◌≤◌, length}
use Rattle.mp_scans.specs.Offering.{in_block}
use Rattle.mp_scans.specs.Windows.{FitIn, AreScannedIn}
use Rattle.mp_skips.specs.Needs.{AreGroupNeeds}
use Rattle.mp_skips.proofs.scans.scan_strips.Given as goal

abbrev pub invariant-loop-row : goal.invariant-loop-row
invariant-loop-row g l =
    let offers = g.O.Offers in
    let grid = l.coarse.plan.grid in
    let r = l.rows in
    record {
      after : r.row ≤ l.row;
      before : l.row ≤ l.bottom;
      fits : FitIn offers.fits grid l.into;
      scanned : AreScannedIn offers.is_scanned grid (in_block r.first r.end r.row l.row) l.initial.into l.into;
      groups_need : AreGroupNeeds l.coarse (offers.keeps_column l.into) r.row l.base (length l.needs) l.needs;
    }

abbrev pub decreases-loop-row : goal.decreases-loop-row
decreases-loop-row g l = l.bottom - l.row
