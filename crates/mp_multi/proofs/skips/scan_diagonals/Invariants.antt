use Rattle.std.proofs.Common.{◌≡◌, ◌-◌, ◌≤◌, ◌⊎◌, length}
use Rattle.mp_scans.specs.Offering.{in_block}
use Rattle.mp_multi.specs.Blocks.{AreScannedBy}
use Rattle.mp_multi.proofs.skips.scan_diagonals.Given as goal

abbrev pub invariant-loop-row : goal.invariant-loop-row
invariant-loop-row g l = record {
  after : l.top ≤ l.row;
  order : (l.row ≤ l.stop) ⊎ (l.row ≡ l.top);
  windows : length l.into.items ≡ l.levels.wide.windows;
  scanned : AreScannedBy l.levels.wide.plan (in_block l.first l.end l.top l.row) l.fn.into l.into;
}

abbrev pub decreases-loop-row : goal.decreases-loop-row
decreases-loop-row g l = l.stop - l.row
