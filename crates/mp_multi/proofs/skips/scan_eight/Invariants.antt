use Rattle.std.proofs.Common.{◌≡◌, ◌+◌, ◌-◌, ◌*◌, max, min, length}
use Rattle.mp_scans.specs.Offering.{in_block}
use Rattle.mp_multi.specs.Blocks.{AreScannedBy}
use Rattle.mp_multi.specs.Skips.{IsNeedOfAll, AreGroupNeeds}
use Rattle.mp_multi.proofs.skips.scan_eight.Given as goal

abbrev pub invariant-loop-l : goal.invariant-loop-l
invariant-loop-l g l =
    let r = l.rows in
    record {
      windows : length l.into.items ≡ l.level.windows;
      scanned : AreScannedBy l.level.plan
          (in_block (max r.first (8 * l.group - r.row)) (min r.end (8 * (l.group + l.l) - r.row)) r.row
          (r.row + r.count)) l.fn.into l.into;
      rows_need : IsNeedOfAll l.level.plan l.level.units l.into.items (r.row + r.first) r.row r.count l.need;
      groups_need : AreGroupNeeds l.level.plan l.level.units l.into.items r.row l.base (length l.needs) l.needs;
    }
