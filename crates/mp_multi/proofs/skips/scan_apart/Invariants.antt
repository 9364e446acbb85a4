use Rattle.std.proofs.Common.{◌≡◌, ◌-◌, ◌≤◌, ◌⊎◌, length}
use Rattle.mp_scans.specs.Offering.{in_block}
use Rattle.mp_multi.specs.Blocks.{AreScannedBy}
use Rattle.mp_multi.proofs.skips.scan_apart.Given as goal

abbrev pub invariant-loop-start : goal.invariant-loop-start
invariant-loop-start g l = record {
  after : l.first ≤ l.start;
  order : (l.start ≤ l.stop) ⊎ (l.start ≡ l.first);
  windows : length l.into.items ≡ l.levels.wide.windows;
  scanned : AreScannedBy l.levels.wide.plan (in_block l.first l.start l.top l.bottom) l.fn.into l.into;
}

abbrev pub decreases-loop-start : goal.decreases-loop-start
decreases-loop-start g l = l.stop - l.start
