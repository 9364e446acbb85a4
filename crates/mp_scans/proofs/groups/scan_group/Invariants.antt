use Rattle.std.proofs.Common.{◌≡◌, ◌+◌, ◌-◌, ◌≤◌, ◌⊎◌, length}
use Rattle.mp_scans.specs.Blocks.{AreStripResidues}
use Rattle.mp_scans.specs.Exacts.{AreExacts}
use Rattle.mp_scans.specs.Offering.{in_block}
use Rattle.mp_scans.specs.Windows.{FitIn, AreScannedIn}
use Rattle.mp_scans.proofs.groups.scan_group.Given as goal

abbrev pub invariant-loop-row : goal.invariant-loop-row
invariant-loop-row g l =
    let offers = g.O.Offers in
    let grid = l.group.plan.grid in
    let first = l.group.first in
    record {
      after : l.top ≤ l.row;
      order : (l.row ≤ l.end) ⊎ (l.row ≡ l.top);
      fits : FitIn offers.fits grid l.into;
      exacts : AreExacts grid first l.known.exacts;
      scanned : AreScannedIn offers.is_scanned grid (in_block first (first + l.group.width) l.top l.row)
          l.initial.into l.into;
      residues : AreStripResidues grid l.group.plan.rounding.shift l.row (l.row + first) l.residues;
      places : length l.residues ≡ length l.initial.residues;
    }

abbrev pub decreases-loop-row : goal.decreases-loop-row
decreases-loop-row g l = l.end - l.row
