use Rattle.std.proofs.Common.{◌+◌, ◌-◌, ◌∙◌, inr, sym, arith}
use Rattle.mp_scans.specs.Offering.{in_block, only}
use Rattle.mp_multi.specs.Blocks.{AreScannedBy}
use Rattle.mp_multi.proofs.BlockPairs.{no_pairs}
use Rattle.mp_multi.proofs.PairScans.{scan_none, scan_one, scan_then, scan_same, scan_places}
use Rattle.mp_multi.proofs.SkipLemmas.{pair_next, rows_all}
use Rattle.mp_multi.proofs.skips.scan_diagonal.Goals as goal

pub loop-r-init : goal.loop-r-init
loop-r-init g c =
    let level = c.args.level.now in
    let ch = level.plan.channels in
    let k = c.args.column - c.args.row in
    record {
      windows = c.requires.windows;
      scanned = scan_none ch.m ch.k ch.list.now (in_block k (k + 1) c.args.row (c.args.row + 0)) c.args.into.now
          (c.requires.windows ∙ level.all_windows)
          (λ i j. no_pairs k (k + 1) c.args.row (c.args.row + 0) i j (inr (omega arith)));
    }

pub loop-r-preserved : goal.loop-r-preserved
loop-r-preserved g c =
    let level = c.args.level.now in
    let ch = level.plan.channels in
    let before = c.loop-r.invariant in
    let r = c.loop-r.r in
    let row = c.args.row in
    let column = c.args.column in
    let k = column - row in
    let one : AreScannedBy level.plan (only (row + r) (column + r)) c.loop-r.into c.offer_both.new.into =
    scan_one ch.m ch.k ch.list.now (row + r) (column + r) c.loop-r.into c.offer_both.new.into c.value_at-value.result
    (before.windows ∙ level.all_windows)
    (omega (arith, c.requires.order, c.requires.columns, c.loop-r-test.true, level.all_windows))
    (omega (arith, c.requires.columns, c.loop-r-test.true, level.all_windows)) c.value_at-value.ensures
    c.offer_both.ensures.items c.offer_both.ensures.spare in
    record {
      windows = scan_places ch.m ch.k ch.list.now (only (row + r) (column + r)) c.loop-r.into c.offer_both.new.into
          (before.windows ∙ level.all_windows) one ∙ sym level.all_windows;
      scanned = scan_then ch.m ch.k ch.list.now (in_block k (k + 1) row (row + r)) (only (row + r) (column + r))
          (in_block k (k + 1) row (row + (r + 1))) _ _ _ before.scanned one
          (λ i j _ _. pair_next k row r column i j (omega (arith, c.requires.order)));
    }

pub returns-clause-scanned : goal.returns-clause-scanned
returns-clause-scanned g c =
    let ch = c.args.level.now.plan.channels in
    let row = c.args.row in
    let k = c.args.column - row in
    scan_same ch.m ch.k ch.list.now (in_block k (k + 1) row (row + c.loop-r.r))
    (in_block k (k + 1) row (row + c.args.count)) _ _ c.loop-r.invariant.scanned
    (λ i j _ _. rows_all k (k + 1) row (row + c.args.count) (row + c.loop-r.r) i j
    (omega (arith, c.loop-r.auto.r-end, c.loop-r-test.false)))
