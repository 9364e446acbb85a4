use Rattle.std.proofs.Common.{◌≡◌, ℕ, ◌+◌, ◌-◌, ◌*◌, ◌<◌, ◌≤◌, ◌⊎◌}
use Rattle.mp_scans.specs.Offering.{in_block}
use Rattle.mp_scans.specs.Windows.{FitIn, AreScannedIn}
use Rattle.mp_skips.specs.Blocks.{height}
use Rattle.mp_skips.specs.Needs.{IsRowsNeed, IsColumnNeed}
use Rattle.mp_skips.proofs.scans.scan_block.Given as goal

abbrev pub invariant-loop-behind : goal.invariant-loop-behind
invariant-loop-behind g l =
    let offers = g.O.Offers in
    let grid = l.coarse.plan.grid in
    let r = l.rows in
    record {
      after : l.first ≤ l.behind;
      order : (l.behind ≤ l.stop) ⊎ (l.behind ≡ l.first);
      fits : FitIn offers.fits grid l.into;
      scanned : AreScannedIn offers.is_scanned grid (in_block l.first l.behind r.row (r.row + r.count)) l.initial.into
          l.into;
      rows_need : IsRowsNeed l.coarse (offers.keeps_row l.into) (r.row + r.first) r.row r.count l.need.need;
      columns_need : (c : ℕ) → c < 8 + height l.coarse
          → IsColumnNeed l.coarse (offers.keeps_column l.into) r.row (8 * l.group + c) l.need.need;
    }

abbrev pub decreases-loop-behind : goal.decreases-loop-behind
decreases-loop-behind g l = l.stop - l.behind
