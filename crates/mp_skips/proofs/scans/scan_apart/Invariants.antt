use Rattle.std.proofs.Common.{◌≡◌, ◌-◌, ◌≤◌, ◌⊎◌}
use Rattle.mp_scans.specs.Offering.{in_block}
use Rattle.mp_scans.specs.Windows.{FitIn, AreScannedIn}
use Rattle.mp_skips.proofs.scans.scan_apart.Given as goal

abbrev pub invariant-loop-start : goal.invariant-loop-start
invariant-loop-start g l =
    let offers = g.O.Offers in
    let grid = l.coarse.plan.grid in
    record {
      after : l.first ≤ l.start;
      order : (l.start ≤ l.stop) ⊎ (l.start ≡ l.first);
      fits : FitIn offers.fits grid l.into;
      scanned : AreScannedIn offers.is_scanned grid (in_block l.first l.start l.top l.bottom) l.initial.into l.into;
    }

abbrev pub decreases-loop-start : goal.decreases-loop-start
decreases-loop-start g l = l.stop - l.start
