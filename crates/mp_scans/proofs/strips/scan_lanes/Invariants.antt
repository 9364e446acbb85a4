use Rattle.std.proofs.Common.{◌-◌, ◌≤◌}
use Rattle.mp_scans.specs.Blocks.{AreResiduesOf, in_strip}
use Rattle.mp_scans.specs.Limiting.{IsKnownAt}
use Rattle.mp_scans.specs.Windows.{AreScannedIn}
use Rattle.mp_scans.proofs.strips.scan_lanes.Given as goal

abbrev pub invariant-loop-done : goal.invariant-loop-done
invariant-loop-done g l =
    let offers = g.O.Offers in
    record {
      within : l.done ≤ l.strip.end;
      residues : AreResiduesOf l.strip l.done l.residues;
      scanned : AreScannedIn offers.is_scanned l.strip.block.grid (in_strip l.strip 0 l.done) l.initial.into l.into;
      known : IsKnownAt offers.fits offers.keeps_row offers.keeps_column l.strip l.done l.known l.into;
    }

abbrev pub decreases-loop-done : goal.decreases-loop-done
decreases-loop-done g l = l.strip.end - l.done
