use Rattle.std.proofs.Common.{◌≡◌, ◌+◌, ◌-◌, ◌*◌, ◌≤◌, ◌⊎◌, length}
use Rattle.mp_scans.specs.Offering.{in_block}
use Rattle.mp_multi.specs.Blocks.{AreScannedBy}
use Rattle.mp_multi.specs.Skips.{IsNeedOfAll}
use Rattle.mp_multi.proofs.skips.scan_block.Given as goal

abbrev pub invariant-loop-behind : goal.invariant-loop-behind
invariant-loop-behind g l =
    let r = l.rows in
    record {
      after : l.first ≤ l.behind;
      order : (l.behind ≤ l.stop) ⊎ (l.behind ≡ l.first);
      windows : length l.into.items ≡ l.level.windows;
      scanned : AreScannedBy l.level.plan (in_block l.first l.behind r.row (r.row + r.count)) l.initial.into l.into;
      rows_need : IsNeedOfAll l.level.plan l.level.units l.into.items (r.row + r.first) r.row r.count l.need;
      columns_need : IsNeedOfAll l.level.plan l.level.units l.into.items r.row (8 * l.group)
          (8 + 8 * l.level.units.eights) l.need;
    }

abbrev pub decreases-loop-behind : goal.decreases-loop-behind
decreases-loop-behind g l = l.stop - l.behind
