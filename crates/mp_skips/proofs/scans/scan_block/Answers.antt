use Rattle.std.proofs.Common.{◌≡◌, ℕ, List, ◌+◌, ◌-◌, ◌*◌, ◌<◌, ◌≤◌, ◌∙◌, min, max, inl, arith, subst}
use Rattle.mp_scans.specs.Offering.{in_block}
use Rattle.mp_scans.specs.Windows.{column_windows}
use Rattle.mp_skips.specs.Sums.{number_in}
use Rattle.mp_skips.specs.Blocks.{AreApart}
use Rattle.mp_skips.specs.Needs.{IsColumnNeed}
use Rattle.mp_skips.proofs.BlockLemmas.{row_within, column_within}
use Rattle.mp_skips.proofs.NeedLemmas.{rows_need_stays, column_need_stays}
use Rattle.mp_skips.proofs.PairLemmas.{scanned_next, diagonals_next, diagonals_cut, same_block}
use Rattle.mp_skips.proofs.scans.scan_block.Goals as goal

pub take_diagonal-requires-clause-columns_need : goal.take_diagonal-requires-clause-columns_need
take_diagonal-requires-clause-columns_need g c = λ q few.
    let row = c.args.rows.now.row in
    let base = 8 * c.args.group in
    let place = row + c.loop-behind.behind + q in
    let after : base ≤ row + c.loop-behind.behind =
    omega (arith, c.max-first.ensures, c.saturating_sub.ensures, c.loop-behind.invariant.after) in
    let before : row + c.loop-behind.behind < base + 8 =
    omega (arith, c.min-stop.ensures, c.min-end.ensures, c.saturating_sub-2.ensures, c.loop-behind-test.true) in
    let there : base + (place - base) ≡ place = omega (arith, after) in
    subst (λ n. IsColumnNeed c.args.coarse.now (g.O.Offers.keeps_column c.loop-behind.into) row n c.args.need) there
    (c.loop-behind.invariant.columns_need (place - base) (omega (arith, after, before, few)))

pub loop-behind-preserved : goal.loop-behind-preserved
loop-behind-preserved g c =
    let laws = g.met.O.Offers.laws in
    let limits = g.met.O.Offers.limits in
    let coarse = c.args.coarse.now in
    let before = c.loop-behind.invariant in
    let next = c.take_diagonal.ensures.scanned in
    let r = c.args.rows.now in
    let behind = c.loop-behind.behind in
    let done = in_block behind (behind + 1) r.row (r.row + r.count) in
    record {
      after = omega (arith, before.after);
      order = inl (omega (arith, c.loop-behind-test.true));
      fits = laws.still_fits _ _ _ done _ _ before.fits next;
      scanned = scanned_next laws coarse.plan.grid _ _ _ _ _ _ c.requires.fits before.scanned next
          (λ i j _ _. diagonals_next c.max-first.result behind (behind + 1) r.row (r.row + r.count) i j before.after
          (omega arith));
      rows_need = rows_need_stays limits coarse done _ _ before.fits next _ _ _ _ before.rows_need;
      columns_need = λ q few. column_need_stays limits coarse done _ _ before.fits next _ _ _
          (before.columns_need q few);
    }

pub diagonal_sums-requires-clause-row : goal.diagonal_sums-requires-clause-row
diagonal_sums-requires-clause-row g c =
    row_within c.args.coarse.now c.args.rows.now.row (omega (arith, c.requires.are_rows, c.requires.some))

pub diagonal_sums-requires-clause-column : goal.diagonal_sums-requires-clause-column
diagonal_sums-requires-clause-column g c = column_within c.args.coarse.now (8 * c.args.group) c.requires.column

pub take_diagonal-requires-clause-sum : goal.take_diagonal-requires-clause-sum
take_diagonal-requires-clause-sum g c = λ le.
    let row = c.args.rows.now.row in
    let base = 8 * c.args.group in
    let place = row + c.loop-behind.behind in
    let after : base ≤ place =
    omega (arith, c.max-first.ensures, c.saturating_sub.ensures, c.loop-behind.invariant.after) in
    let before : place < base + 8 =
    omega (arith, c.min-stop.ensures, c.min-end.ensures, c.saturating_sub-2.ensures, c.loop-behind-test.true) in
    let there : base + (place - base) ≡ place = omega (arith, after) in
    subst (λ n. AreApart c.args.coarse.now row n 1 c.args.need) there
    (c.diagonal_sums.ensures.apart (place - base) c.args.need (omega (arith, after, before))
    (subst (λ (v : List ℕ). c.args.need ≤ number_in v (place - base)) c.as_array.ensures le))

pub returns : goal.returns
returns g c =
    let r = c.args.rows.now in
    let wb = column_windows c.args.coarse.now.plan.grid in
    let bottom = r.row + r.count in
    let first = max r.first (8 * c.args.group - r.row) in
    let end = min r.end (8 * c.args.group + 8 - r.row) in
    record {
      scanned = g.met.O.Offers.laws.same _ _ _ _ _ _ _ c.requires.fits c.loop-behind.invariant.scanned
          (λ i j _ lt. diagonals_cut c.max-first.result c.min-end.result c.min-stop.result c.loop-behind.behind r.row
          bottom wb i j (omega (arith, c.min-stop.ensures, c.saturating_sub-3.ensures, c.count_columns.ensures))
          (omega (arith, c.loop-behind-test.false)) c.loop-behind.invariant.order lt
          ∙ same_block c.max-first.result first c.min-end.result end r.row bottom i j
          (omega (arith, c.max-first.ensures, c.saturating_sub.ensures))
          (omega (arith, c.min-end.ensures, c.saturating_sub-2.ensures)));
    }
