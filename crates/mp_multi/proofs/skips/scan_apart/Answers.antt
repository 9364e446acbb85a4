use Rattle.std.proofs.Common.{◌+◌, ◌∙◌, inl, inr, refl, arith}
use Rattle.mp_scans.specs.Offering.{in_block}
use Rattle.mp_multi.proofs.BlockPairs.{no_pairs, diagonals_next, diagonals_cut}
use Rattle.mp_multi.proofs.PairScans.{scan_none, scan_then, scan_same}
use Rattle.mp_multi.proofs.skips.scan_apart.Goals as goal

pub loop-start-init : goal.loop-start-init
loop-start-init g c =
    let level = c.args.levels.now.wide in
    let ch = level.plan.channels in
    record {
      after = omega arith;
      order = inr refl;
      windows = c.requires.windows;
      scanned = scan_none ch.m ch.k ch.list.now (in_block c.args.first c.args.first c.args.top c.args.bottom)
          c.args.into.now (c.requires.windows ∙ level.all_windows)
          (λ i j. no_pairs c.args.first c.args.first c.args.top c.args.bottom i j (inl (omega arith)));
    }

pub loop-start-preserved : goal.loop-start-preserved
loop-start-preserved g c =
    let ch = c.args.levels.now.wide.plan.channels in
    let before = c.loop-start.invariant in
    let next = c.scan_diagonals.ensures in
    let start = c.loop-start.start in
    let end = start + c.min-width.result in
    record {
      after = omega (arith, before.after);
      order = inl (omega (arith, c.min-width.ensures, c.loop-start-test.true));
      windows = next.windows;
      scanned = scan_then ch.m ch.k ch.list.now (in_block c.args.first start c.args.top c.args.bottom)
          (in_block start end c.args.top c.args.bottom) (in_block c.args.first end c.args.top c.args.bottom) _ _ _
          before.scanned next.scanned
          (λ i j _ _. diagonals_next c.args.first start end c.args.top c.args.bottom i j before.after (omega arith));
    }

pub returns-clause-scanned : goal.returns-clause-scanned
returns-clause-scanned g c =
    let level = c.args.levels.now.wide in
    let ch = level.plan.channels in
    scan_same ch.m ch.k ch.list.now (in_block c.args.first c.loop-start.start c.args.top c.args.bottom)
    (in_block c.args.first c.args.end c.args.top c.args.bottom) _ _ c.loop-start.invariant.scanned
    (λ i j _ lt. diagonals_cut c.args.first c.args.end c.min-stop.result c.loop-start.start c.args.top c.args.bottom
    level.windows i j (omega (arith, c.min-stop.ensures, c.saturating_sub.ensures)) (omega arith)
    c.loop-start.invariant.order (omega (arith, lt, level.all_windows)))
