use Rattle.std.proofs.Common.{◌+◌, ◌∙◌, inl, inr, refl, arith}
use Rattle.mp_scans.specs.Offering.{in_block}
use Rattle.mp_multi.proofs.BlockPairs.{no_pairs, rows_next, rows_cut}
use Rattle.mp_multi.proofs.PairScans.{scan_none, scan_then, scan_same}
use Rattle.mp_multi.proofs.skips.scan_diagonals.Goals as goal

pub loop-row-init : goal.loop-row-init
loop-row-init g c =
    let level = c.args.levels.now.wide in
    let ch = level.plan.channels in
    record {
      after = omega arith;
      order = inr refl;
      windows = c.requires.windows;
      scanned = scan_none ch.m ch.k ch.list.now (in_block c.args.first c.args.end c.args.top c.args.top) c.args.into.now
          (c.requires.windows ∙ level.all_windows)
          (λ i j. no_pairs c.args.first c.args.end c.args.top c.args.top i j (inr (omega arith)));
    }

pub loop-row-preserved : goal.loop-row-preserved
loop-row-preserved g c =
    let ch = c.args.levels.now.wide.plan.channels in
    let before = c.loop-row.invariant in
    let next = c.scan_rows.ensures in
    let row = c.loop-row.row in
    let end = row + c.min-count.result in
    record {
      after = omega (arith, before.after);
      order = inl (omega (arith, c.min-count.ensures, c.loop-row-test.true));
      windows = next.windows;
      scanned = scan_then ch.m ch.k ch.list.now (in_block c.args.first c.args.end c.args.top row)
          (in_block c.args.first c.args.end row end) (in_block c.args.first c.args.end c.args.top end) _ _ _
          before.scanned next.scanned
          (λ i j _ _. rows_next c.args.first c.args.end c.args.top row end i j before.after (omega arith));
    }

pub returns-clause-scanned : goal.returns-clause-scanned
returns-clause-scanned g c =
    let level = c.args.levels.now.wide in
    let ch = level.plan.channels in
    scan_same ch.m ch.k ch.list.now (in_block c.args.first c.args.end c.args.top c.loop-row.row)
    (in_block c.args.first c.args.end c.args.top c.args.bottom) _ _ c.loop-row.invariant.scanned
    (λ i j _ lt. rows_cut c.args.first c.args.end c.args.top c.args.bottom c.loop-row.row c.min-stop.result
    level.windows i j (omega (arith, c.min-stop.ensures)) (omega (arith, c.loop-row-test.false))
    c.loop-row.invariant.order (omega (arith, lt, level.all_windows)))
