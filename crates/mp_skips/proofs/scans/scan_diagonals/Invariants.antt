use Rattle.std.proofs.Common.{◌-◌, ◌≤◌}
use Rattle.mp_scans.specs.Offering.{in_block}
use Rattle.mp_scans.specs.Windows.{FitIn, AreScannedIn}
use Rattle.mp_skips.proofs.scans.scan_diagonals.Given as goal

abbrev pub invariant-loop-row : goal.invariant-loop-row
invariant-loop-row g l =
    let offers = g.O.Offers in
    let grid = l.coarse.plan.grid in
    record {
      after : l.top ≤ l.row;
      before : l.row ≤ l.bottom;
      fits : FitIn offers.fits grid l.into;
      scanned : AreScannedIn offers.is_scanned grid (in_block l.first l.end l.top l.row) l.initial.into l.into;
    }

abbrev pub decreases-loop-row : goal.decreases-loop-row
decreases-loop-row g l = l.bottom - l.row
