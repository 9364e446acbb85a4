use Rattle.std.proofs.Common.{◌≡◌, ◌+◌, ◌-◌, length}
use Rattle.mp_scans.specs.Offering.{in_block}
use Rattle.mp_multi.specs.Blocks.{AreScannedBy}
use Rattle.mp_multi.proofs.skips.scan_diagonal.Given as goal

abbrev pub invariant-loop-r : goal.invariant-loop-r
invariant-loop-r g l = record {
  windows : length l.into.items ≡ l.level.windows;
  scanned : AreScannedBy l.level.plan
      (in_block (l.column - l.row) (l.column - l.row + 1) l.row (l.row + l.r)) l.fn.into l.into;
}
