use Rattle.std.proofs.Common.{◌≡◌, ℕ, List, ◌+◌, ◌-◌, ◌*◌, ◌<◌, ◌≤◌, ◌∙◌, min, max, inl, inr, refl, arith, subst}
use Rattle.mp_scans.specs.Offering.{in_block}
use Rattle.mp_skips.specs.Sums.{number_in}
use Rattle.mp_multi.specs.Skips.{AreFar}
use Rattle.mp_multi.proofs.BlockPairs.{no_pairs, diagonals_next, diagonals_cut}
use Rattle.mp_multi.proofs.PairScans.{scan_none, scan_then, scan_same}
use Rattle.mp_multi.proofs.SkipLemmas.{needs_stay, needs_within, same_block}
use Rattle.mp_multi.proofs.skips.scan_block.Goals as goal

pub loop-behind-init : goal.loop-behind-init
loop-behind-init g c =
    let level = c.args.level.now in
    let ch = level.plan.channels in
    let r = c.args.rows.now in
    let first = c.max-first.result in
    record {
      after = omega arith;
      order = inr refl;
      windows = c.requires.windows;
      scanned = scan_none ch.m ch.k ch.list.now (in_block first first r.row (r.row + r.count)) c.args.into.now
          (c.requires.windows ∙ level.all_windows)
          (λ i j. no_pairs first first r.row (r.row + r.count) i j (inl (omega arith)));
      rows_need = c.requires.rows_need;
      columns_need = c.requires.columns_need;
    }

pub take_diagonal-requires-clause-columns_need : goal.take_diagonal-requires-clause-columns_need
take_diagonal-requires-clause-columns_need g c =
    let level = c.args.level.now in
    let row = c.args.rows.now.row in
    let base = 8 * c.args.group in
    let place = row + c.loop-behind.behind in
    let after : base ≤ place =
    omega (arith, c.max-first.ensures, c.saturating_sub.ensures, c.loop-behind.invariant.after) in
    let before : place < base + 8 =
    omega (arith, c.min-stop.ensures, c.min-end.ensures, c.saturating_sub-2.ensures, c.loop-behind-test.true) in
    needs_within level.plan level.units c.loop-behind.into row base (8 + 8 * level.units.eights) place
    (1 + 8 * level.units.eights) c.args.need after (omega (arith, before)) c.loop-behind.invariant.columns_need

pub take_diagonal-requires-clause-far : goal.take_diagonal-requires-clause-far
take_diagonal-requires-clause-far g c = λ le.
    let level = c.args.level.now in
    let row = c.args.rows.now.row in
    let base = 8 * c.args.group in
    let place = row + c.loop-behind.behind in
    let after : base ≤ place =
    omega (arith, c.max-first.ensures, c.saturating_sub.ensures, c.loop-behind.invariant.after) in
    let before : place < base + 8 =
    omega (arith, c.min-stop.ensures, c.min-end.ensures, c.saturating_sub-2.ensures, c.loop-behind-test.true) in
    let there : base + (place - base) ≡ place = omega (arith, after) in
    subst (λ n. AreFar level.plan level.units row n 1 c.args.need) there
    (c.diagonal_bounds.ensures.far (place - base) c.args.need (omega (arith, after, before))
    (subst (λ (v : List ℕ). c.args.need ≤ number_in v (place - base)) c.as_array.ensures le))

pub loop-behind-preserved : goal.loop-behind-preserved
loop-behind-preserved g c =
    let level = c.args.level.now in
    let ch = level.plan.channels in
    let before = c.loop-behind.invariant in
    let next = c.take_diagonal.ensures in
    let r = c.args.rows.now in
    let behind = c.loop-behind.behind in
    let done = in_block behind (behind + 1) r.row (r.row + r.count) in
    let long = before.windows ∙ level.all_windows in
    record {
      after = omega (arith, before.after);
      order = inl (omega (arith, c.loop-behind-test.true));
      windows = next.windows;
      scanned = scan_then ch.m ch.k ch.list.now (in_block c.max-first.result behind r.row (r.row + r.count)) done
          (in_block c.max-first.result (behind + 1) r.row (r.row + r.count)) _ _ _ before.scanned next.scanned
          (λ i j _ _. diagonals_next c.max-first.result behind (behind + 1) r.row (r.row + r.count) i j before.after
          (omega arith));
      rows_need = needs_stay level.plan level.units done _ _ long next.scanned _ _ _ _ before.rows_need;
      columns_need = needs_stay level.plan level.units done _ _ long next.scanned _ _ _ _ before.columns_need;
    }

pub returns-clause-scanned : goal.returns-clause-scanned
returns-clause-scanned g c =
    let level = c.args.level.now in
    let ch = level.plan.channels in
    let r = c.args.rows.now in
    let bottom = r.row + r.count in
    let first = max r.first (8 * c.args.group - r.row) in
    let end = min r.end (8 * c.args.group + 8 - r.row) in
    scan_same ch.m ch.k ch.list.now (in_block c.max-first.result c.loop-behind.behind r.row bottom)
    (in_block first end r.row bottom) _ _ c.loop-behind.invariant.scanned
    (λ i j _ lt. diagonals_cut c.max-first.result c.min-end.result c.min-stop.result c.loop-behind.behind r.row
    bottom level.windows i j (omega (arith, c.min-stop.ensures, c.saturating_sub-3.ensures))
    (omega (arith, c.loop-behind-test.false)) c.loop-behind.invariant.order (omega (arith, lt, level.all_windows))
    ∙ same_block c.max-first.result first c.min-end.result end r.row bottom i j
    (omega (arith, c.max-first.ensures, c.saturating_sub.ensures))
    (omega (arith, c.min-end.ensures, c.saturating_sub-2.ensures)))
