use Rattle.std.proofs.Common.{◌+◌, inl, inr, refl, arith, length, ap}
use Rattle.mp_scans.specs.Offering.{in_block}
use Rattle.mp_multi.proofs.BlockPairs.{no_pairs, diagonals_next, diagonals_cut}
use Rattle.mp_multi.proofs.PairScans.{scan_none, scan_then, scan_same}
use Rattle.mp_multi.proofs.fast.scan_diagonals.Goals as goal

pub loop-start-init : goal.loop-start-init
loop-start-init g c =
    let ch = c.args.plan.now.channels in
    record {
      after = omega arith;
      order = inr refl;
      windows = c.requires.windows;
      scanned = scan_none ch.m ch.k ch.list.now (in_block c.args.first c.args.first c.args.top c.args.bottom)
          c.args.into.now c.requires.windows
          (λ i j. no_pairs c.args.first c.args.first c.args.top c.args.bottom i j (inl (omega arith)));
    }

pub loop-start-preserved : goal.loop-start-preserved
loop-start-preserved g c =
    let ch = c.args.plan.now.channels in
    let before = c.loop-start.invariant in
    let next = c.scan_group.ensures in
    let start = c.loop-start.start in
    let end = start + c.min-width.result in
    record {
      after = omega (arith, before.after);
      order = inl (omega (arith, c.min-width.ensures, c.loop-start-test.true));
      windows = omega (arith, next.windows, before.windows);
      scanned = scan_then ch.m ch.k ch.list.now (in_block c.args.first start c.args.top c.args.bottom)
          (in_block start end c.args.top c.args.bottom) (in_block c.args.first end c.args.top c.args.bottom) _ _ _
          before.scanned next.scanned
          (λ i j _ _. diagonals_next c.args.first start end c.args.top c.args.bottom i j before.after (omega arith));
    }

pub returns : goal.returns
returns g c =
    let ch = c.args.plan.now.channels in
    record {
      scanned = scan_same ch.m ch.k ch.list.now (in_block c.args.first c.loop-start.start c.args.top c.args.bottom)
          (in_block c.args.first c.args.end c.args.top c.args.bottom) _ _ c.loop-start.invariant.scanned
          (λ i j _ lt. diagonals_cut c.args.first c.args.end c.min-stop.result c.loop-start.start c.args.top
          c.args.bottom (length c.args.into.now.items) i j
          (omega (arith, c.min-stop.ensures, c.saturating_sub.ensures, ap length c.as_slice-windows.ensures))
          (omega arith)
          c.loop-start.invariant.order (omega (arith, lt, c.requires.windows)));
      windows = c.loop-start.invariant.windows;
    }
