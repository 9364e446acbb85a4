use Rattle.std.proofs.Common.{◌+◌, ◌-◌, ◌≤◌}
use Rattle.std.specs.Prelude.{◌||◌}
use Rattle.mp_scans.specs.Limiting.{IsKnownAt, AreKept}
use Rattle.mp_scans.specs.Offering.{only, in_row}
use Rattle.mp_scans.specs.Windows.{AreScannedIn}
use Rattle.mp_scans.proofs.pairs.take_row.Given as goal

abbrev pub invariant-loop-t : goal.invariant-loop-t
invariant-loop-t g l =
    let offers = g.O.Offers in
    let b = l.strip.block in
    let r = b.row + l.row.place in
    let first = b.column + (l.row.place + l.strip.offset) in
    record {
      within : l.t ≤ l.row.width;
      scanned : AreScannedIn offers.is_scanned b.grid
          (λ i j. only r (first + l.nearest) i j || in_row r first (first + l.t) i j) l.fn.into l.into;
      kept : AreKept b (offers.keeps_row l.into) (offers.keeps_column l.into) l.row.place
          (l.row.place + l.strip.offset) l.above;
      known : IsKnownAt offers.fits offers.keeps_row offers.keeps_column l.strip l.row.place l.known l.into;
    }

abbrev pub decreases-loop-t : goal.decreases-loop-t
decreases-loop-t g l = l.row.width - l.t
