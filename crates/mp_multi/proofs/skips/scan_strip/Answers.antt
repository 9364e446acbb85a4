use Rattle.std.proofs.Common.{◌+◌, ◌-◌, ◌*◌, ◌/◌, ◌∙◌, inl, min, max, arith}
use Rattle.mp_scans.specs.Offering.{in_block}
use Rattle.mp_multi.proofs.BlockPairs.{no_pairs}
use Rattle.mp_multi.proofs.PairScans.{scan_none, scan_then, scan_same}
use Rattle.mp_multi.proofs.SkipLemmas.{blocks_cut, strip_next, needs_stay, group_needs_stay, as_plan}
use Rattle.mp_multi.proofs.skips.scan_strip.Goals as goal

pub loop-group-init : goal.loop-group-init
loop-group-init g c =
    let level = c.args.levels.now.wide in
    let ch = level.plan.channels in
    let r = c.args.rows.now in
    let first = min r.end (8 * ((r.row + r.first) / 8) - r.row) in
    record {
      after = omega (arith, c.requires.base);
      small = omega arith;
      windows = c.requires.windows;
      scanned = scan_none ch.m ch.k ch.list.now (in_block r.first first r.row (r.row + r.count)) c.args.into.now
          (c.requires.windows ∙ level.all_windows)
          (λ i j. no_pairs r.first first r.row (r.row + r.count) i j (inl (omega arith)));
      rows_need = c.need_of_all-need.ensures.need;
      wide_need = c.requires.wide;
      narrow_need = c.requires.narrow;
    }

pub loop-group-preserved : goal.loop-group-preserved
loop-group-preserved g c =
    let levels = c.args.levels.now in
    let level = levels.wide in
    let ch = level.plan.channels in
    let before = c.loop-group.invariant in
    let next = c.take_eight.ensures in
    let r = c.args.rows.now in
    let group = c.loop-group.group in
    let done = in_block (max r.first (8 * group - r.row)) (min r.end (8 * (group + 8) - r.row)) r.row
    (r.row + r.count) in
    let long = before.windows ∙ level.all_windows in
    record {
      after = omega (arith, before.after);
      small = omega (arith, c.loop-group-test.true);
      windows = next.windows;
      scanned = scan_then ch.m ch.k ch.list.now
          (in_block r.first (min r.end (8 * group - r.row)) r.row (r.row + r.count)) done
          (in_block r.first (min r.end (8 * (group + 8) - r.row)) r.row (r.row + r.count)) _ _ _ before.scanned
          next.scanned
          (λ i j _ _. strip_next r.first r.end r.row (r.row + r.count) group (group + 8) i j (omega arith));
      rows_need = needs_stay level.plan level.units done _ _ long next.scanned _ _ _ _ before.rows_need;
      wide_need = group_needs_stay level.plan level.units done _ _ long next.scanned _ _ _ _ before.wide_need;
      narrow_need = group_needs_stay levels.narrow.plan levels.narrow.units done _ _
          (omega (arith, before.windows, levels.same_windows, levels.narrow.all_windows))
          (as_plan level.plan levels.narrow.plan levels.same_plan done _ _ next.scanned) _ _ _ _ before.narrow_need;
    }

pub returns-clause-scanned : goal.returns-clause-scanned
returns-clause-scanned g c =
    let level = c.args.levels.now.wide in
    let ch = level.plan.channels in
    let r = c.args.rows.now in
    scan_same ch.m ch.k ch.list.now
    (in_block r.first (min r.end (8 * c.loop-group.group - r.row)) r.row (r.row + r.count))
    (in_block r.first r.end r.row (r.row + r.count)) _ _ c.loop-group.invariant.scanned
    (λ i j _ lt. blocks_cut r.first r.end r.row (r.row + r.count) level.windows (8 * c.loop-group.group) i j
    (omega (arith, c.min-stop.ensures, c.loop-group-test.false)) (omega (arith, lt, level.all_windows)))
