use Rattle.std.proofs.Common.{◌≡◌, ◌+◌, ◌-◌, ◌*◌, ◌≤◌, min, length}
use Rattle.mp_scans.specs.Offering.{in_block}
use Rattle.mp_multi.specs.Blocks.{AreScannedBy}
use Rattle.mp_multi.specs.Skips.{IsNeedOfAll, AreGroupNeeds}
use Rattle.mp_multi.proofs.skips.scan_strip.Given as goal

abbrev pub invariant-loop-group : goal.invariant-loop-group
invariant-loop-group g l =
    let r = l.rows in
    let wide = l.levels.wide in
    let narrow = l.levels.narrow in
    record {
      after : l.needs.base ≤ l.group;
      small : 8 * l.group ≤ r.row + r.first + l.stop + 64;
      windows : length l.into.items ≡ wide.windows;
      scanned : AreScannedBy wide.plan (in_block r.first (min r.end (8 * l.group - r.row)) r.row (r.row + r.count))
          l.fn.into l.into;
      rows_need : IsNeedOfAll wide.plan wide.units l.into.items (r.row + r.first) r.row r.count l.need;
      wide_need : AreGroupNeeds wide.plan wide.units l.into.items r.row l.needs.base (length l.needs.wide.now)
          l.needs.wide.now;
      narrow_need : AreGroupNeeds narrow.plan narrow.units l.into.items r.row l.needs.base
          (length l.needs.narrow.now) l.needs.narrow.now;
    }

abbrev pub decreases-loop-group : goal.decreases-loop-group
decreases-loop-group g l = l.stop - 8 * l.group
