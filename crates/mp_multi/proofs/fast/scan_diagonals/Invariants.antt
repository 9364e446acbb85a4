use Rattle.std.proofs.Common.{◌≡◌, ◌-◌, ◌≤◌, ◌⊎◌, length}
use Rattle.mp_scans.specs.Offering.{in_block}
use Rattle.mp_multi.specs.Blocks.{AreScannedBy}
use Rattle.mp_multi.specs.Tiling.{window_count}
use Rattle.mp_multi.proofs.fast.scan_diagonals.Given as goal

abbrev pub invariant-loop-start : goal.invariant-loop-start
invariant-loop-start g l = record {
  after : l.first ≤ l.start;
  order : (l.start ≤ l.stop) ⊎ (l.start ≡ l.first);
  windows : length l.into.items ≡ window_count l.plan.channels.m l.plan.channels.list.now;
  scanned : AreScannedBy l.plan (in_block l.first l.start l.top l.bottom) l.fn.into l.into;
}

abbrev pub decreases-loop-start : goal.decreases-loop-start
decreases-loop-start g l = l.stop - l.start
