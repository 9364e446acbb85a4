use Rattle.std.proofs.Common.{◌≡◌, ◌+◌, length}
use Rattle.mp_scans.specs.Offering.{in_row}
use Rattle.mp_multi.specs.Blocks.{AreKeptIn, AreLimitsAt, AreScannedIn}
use Rattle.mp_multi.proofs.pairs.take_row.Given as goal

abbrev pub invariant-loop-t : goal.invariant-loop-t
invariant-loop-t g l =
    let b = l.strip.block in
    let first = b.column + (l.p + l.strip.offset) in
    record {
      windows : length l.into.items ≡ b.windows;
      limits : AreLimitsAt l.strip l.p l.known l.into.items;
      kept : AreKeptIn b l.known.kept l.running;
      scanned : AreScannedIn b (in_row (b.row + l.p) first (first + l.t)) l.fn.into l.into;
    }
