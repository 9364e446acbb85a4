use Rattle.std.proofs.Common.{◌≡◌, ℕ, ◌+◌, ◌-◌, ◌*◌, ◌<◌, ◌≤◌, length, min}
use Rattle.std.specs.Int.{div_ceil}
use Rattle.mp_scans.specs.Blocks.{IsStripResidue}
use Rattle.mp_scans.specs.Limiting.{IsKnown, first_on}
use Rattle.mp_scans.specs.Offering.{in_block}
use Rattle.mp_scans.specs.Windows.{AreScannedIn}
use Rattle.mp_scans.proofs.groups.scan_block.Given as goal

abbrev pub invariant-loop-strips : goal.invariant-loop-strips
invariant-loop-strips g l =
    let offers = g.O.Offers in
    let b = l.block in
    let n = length b.rows.differences.now in
    let f = b.column - b.row in
    record {
      few : l.strips ≤ div_ceil b.width 32;
      known : IsKnown offers.fits offers.keeps_row offers.keeps_column b (first_on (l.strips * 32)) l.known l.into;
      scanned : AreScannedIn offers.is_scanned b.grid
          (in_block (f + min (l.strips * 32) b.width) (f + b.width) b.row (b.row + n)) l.initial.into l.into;
      done : (s t : ℕ) → l.strips ≤ s
          → IsStripResidue b.grid b.rounding.shift (b.row + n) (b.column + n) l.residues s t;
      left : (s t : ℕ) → s < l.strips → IsStripResidue b.grid b.rounding.shift b.row b.column l.residues s t;
      places : length l.residues ≡ length l.initial.residues;
    }

abbrev pub decreases-loop-strips : goal.decreases-loop-strips
decreases-loop-strips g l = l.strips
