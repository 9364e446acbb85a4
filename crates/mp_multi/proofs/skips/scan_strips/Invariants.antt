use Rattle.std.proofs.Common.{◌≡◌, ◌-◌, ◌≤◌, length}
use Rattle.mp_scans.specs.Offering.{in_block}
use Rattle.mp_multi.specs.Blocks.{AreScannedBy}
use Rattle.mp_multi.specs.Skips.{AreGroupNeeds}
use Rattle.mp_multi.proofs.skips.scan_strips.Given as goal

abbrev pub invariant-loop-row : goal.invariant-loop-row
invariant-loop-row g l =
    let r = l.rows in
    let wide = l.levels.wide in
    let narrow = l.levels.narrow in
    record {
      after : r.row ≤ l.row;
      before : l.row ≤ l.bottom;
      windows : length l.into.items ≡ wide.windows;
      scanned : AreScannedBy wide.plan (in_block r.first r.end r.row l.row) l.fn.into l.into;
      wide_need : AreGroupNeeds wide.plan wide.units l.into.items r.row l.needs.base (length l.needs.wide.now)
          l.needs.wide.now;
      narrow_need : AreGroupNeeds narrow.plan narrow.units l.into.items r.row l.needs.base
          (length l.needs.narrow.now) l.needs.narrow.now;
    }

abbrev pub decreases-loop-row : goal.decreases-loop-row
decreases-loop-row g l = l.bottom - l.row
