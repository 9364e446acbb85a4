use Rattle.std.proofs.Common.{◌≡◌, ◌+◌, ◌-◌, ◌*◌, max, min, length}
use Rattle.mp_scans.specs.Offering.{in_block}
use Rattle.mp_multi.specs.Blocks.{AreScannedBy}
use Rattle.mp_multi.specs.Skips.{AreGroupNeeds}
use Rattle.mp_multi.proofs.skips.take_eight.Given as goal

abbrev pub invariant-loop-done : goal.invariant-loop-done
invariant-loop-done g l =
    let r = l.rows in
    let level = l.levels.narrow in
    record {
      behind : 8 * l.at ≡ 8 * l.group + l.done;
      windows : length l.into.items ≡ l.levels.wide.windows;
      scanned : AreScannedBy l.levels.wide.plan
          (in_block (max r.first (8 * l.group - r.row)) (min r.end (8 * (l.group + 8) - r.row)) r.row
          (r.row + min l.done r.count)) l.fn.into l.into;
      groups_need : AreGroupNeeds level.plan level.units l.into.items r.row l.needs.base
          (length l.needs.narrow.now) l.needs.narrow.now;
    }

abbrev pub decreases-loop-done : goal.decreases-loop-done
decreases-loop-done g l = l.rows.count - l.done
