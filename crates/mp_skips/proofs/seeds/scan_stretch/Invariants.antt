use Rattle.std.proofs.Common.{◌+◌, ◌-◌}
use Rattle.mp_scans.specs.Exacts.{IsExact}
use Rattle.mp_scans.specs.Offering.{in_block}
use Rattle.mp_scans.specs.Windows.{FitIn, AreScannedIn}
use Rattle.mp_skips.proofs.seeds.scan_stretch.Given as goal

abbrev pub invariant-loop-r : goal.invariant-loop-r
invariant-loop-r g l =
    let offers = g.O.Offers in
    let grid = l.coarse.plan.grid in
    let s = l.stretch in
    let k = s.column - s.row in
    record {
      fits : FitIn offers.fits grid l.into;
      scanned : AreScannedIn offers.is_scanned grid (in_block k (k + 1) s.row (s.row + l.r)) l.initial.into l.into;
      exact : IsExact grid k l.exact;
    }
