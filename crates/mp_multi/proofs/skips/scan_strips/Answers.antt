use Rattle.std.proofs.Common.{◌+◌, ◌∙◌, inr, arith}
use Rattle.mp_scans.specs.Offering.{in_block}
use Rattle.mp_multi.proofs.BlockPairs.{no_pairs, rows_next}
use Rattle.mp_multi.proofs.PairScans.{scan_none, scan_then, scan_same}
use Rattle.mp_multi.proofs.SkipLemmas.{group_needs_stay, group_needs_later, as_plan, rows_all}
use Rattle.mp_multi.proofs.skips.scan_strips.Goals as goal

pub loop-row-init : goal.loop-row-init
loop-row-init g c =
    let level = c.args.levels.now.wide in
    let ch = level.plan.channels in
    let r = c.args.rows.now in
    record {
      after = omega arith;
      before = omega arith;
      windows = c.requires.windows;
      scanned = scan_none ch.m ch.k ch.list.now (in_block r.first r.end r.row r.row) c.args.into.now
          (c.requires.windows ∙ level.all_windows)
          (λ i j. no_pairs r.first r.end r.row r.row i j (inr (omega arith)));
      wide_need = c.requires.wide;
      narrow_need = c.requires.narrow;
    }

pub scan_strip-requires-clause-wide : goal.scan_strip-requires-clause-wide
scan_strip-requires-clause-wide g c =
    let level = c.args.levels.now.wide in
    group_needs_later level.plan level.units c.loop-row.into _ _ _ _ _ c.loop-row.invariant.after
    c.loop-row.invariant.wide_need

pub scan_strip-requires-clause-narrow : goal.scan_strip-requires-clause-narrow
scan_strip-requires-clause-narrow g c =
    let level = c.args.levels.now.narrow in
    group_needs_later level.plan level.units c.loop-row.into _ _ _ _ _ c.loop-row.invariant.after
    c.loop-row.invariant.narrow_need

pub loop-row-preserved : goal.loop-row-preserved
loop-row-preserved g c =
    let levels = c.args.levels.now in
    let level = levels.wide in
    let ch = level.plan.channels in
    let before = c.loop-row.invariant in
    let next = c.scan_strip.ensures in
    let r = c.args.rows.now in
    let row = c.loop-row.row in
    let n = c.min-count.result in
    let done = in_block r.first r.end row (row + n) in
    record {
      after = omega (arith, before.after);
      before = omega (arith, c.min-count.ensures, c.loop-row-test.true);
      windows = next.windows;
      scanned = scan_then ch.m ch.k ch.list.now (in_block r.first r.end r.row row) done
          (in_block r.first r.end r.row (row + n)) _ _ _ before.scanned next.scanned
          (λ i j _ _. rows_next r.first r.end r.row row (row + n) i j before.after (omega arith));
      wide_need = group_needs_stay level.plan level.units done _ _ (before.windows ∙ level.all_windows) next.scanned _
          _ _
          _ before.wide_need;
      narrow_need = group_needs_stay levels.narrow.plan levels.narrow.units done _ _
          (omega (arith, before.windows, levels.same_windows, levels.narrow.all_windows))
          (as_plan level.plan levels.narrow.plan levels.same_plan done _ _ next.scanned) _ _ _ _ before.narrow_need;
    }

pub returns-clause-scanned : goal.returns-clause-scanned
returns-clause-scanned g c =
    let ch = c.args.levels.now.wide.plan.channels in
    let r = c.args.rows.now in
    scan_same ch.m ch.k ch.list.now (in_block r.first r.end r.row c.loop-row.row)
    (in_block r.first r.end r.row (r.row + r.count)) _ _ c.loop-row.invariant.scanned
    (λ i j _ _. rows_all r.first r.end r.row (r.row + r.count) c.loop-row.row i j
    (omega (arith, c.loop-row.invariant.before, c.loop-row-test.false)))
