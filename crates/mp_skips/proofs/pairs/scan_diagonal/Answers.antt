use Rattle.std.proofs.Common.{◌+◌, ◌-◌, inr, arith, subst}
use Rattle.mp_scans.specs.Exacts.{IsExact}
use Rattle.mp_scans.specs.Offering.{only, in_block}
use Rattle.mp_skips.proofs.NeedLemmas.{row_need_later, column_need_later, rows_need_stays, column_need_stays}
use Rattle.mp_skips.proofs.PairLemmas.{scanned_next, no_pairs, pair_next}
use Rattle.mp_skips.proofs.pairs.scan_diagonal.Goals as goal

pub loop-r-init : goal.loop-r-init
loop-r-init g c =
    let s = c.args.stretch.now in
    let k = s.column - s.row in
    record {
      fits = c.requires.fits;
      scanned = g.met.O.Offers.laws.none _ _ _ _ _ c.requires.fits
          (λ i j. no_pairs k (k + 1) s.row (s.row + 0) i j (inr (omega arith)));
      exact = tt;
      rows_need = c.requires.rows_need;
      columns_need = c.requires.columns_need;
    }

pub take_pair-requires-clause-row_need : goal.take_pair-requires-clause-row_need
take_pair-requires-clause-row_need g c =
    let s = c.args.stretch.now in
    row_need_later c.args.coarse.now _ s.column (s.column + c.loop-r.r) (s.row + c.loop-r.r) c.args.need.now.need
    (omega arith) (c.loop-r.invariant.rows_need.each c.loop-r.r c.loop-r-test.true)

pub take_pair-requires-clause-column_need : goal.take_pair-requires-clause-column_need
take_pair-requires-clause-column_need g c =
    let s = c.args.stretch.now in
    column_need_later c.args.coarse.now _ s.row (s.row + c.loop-r.r) (s.column + c.loop-r.r) c.args.need.now.need
    (omega arith) (c.loop-r.invariant.columns_need c.loop-r.r c.loop-r-test.true)

pub take_pair-requires-clause-exact : goal.take_pair-requires-clause-exact
take_pair-requires-clause-exact g c =
    let s = c.args.stretch.now in
    subst (λ behind. IsExact c.args.coarse.now.plan.grid behind c.loop-r.exact) (omega (arith, c.requires.apart))
    c.loop-r.invariant.exact

pub loop-r-preserved : goal.loop-r-preserved
loop-r-preserved g c =
    let laws = g.met.O.Offers.laws in
    let limits = g.met.O.Offers.limits in
    let coarse = c.args.coarse.now in
    let before = c.loop-r.invariant in
    let next = c.take_pair.ensures.scanned in
    let s = c.args.stretch.now in
    let r = c.loop-r.r in
    let k = s.column - s.row in
    let done = only (s.row + r) (s.column + r) in
    record {
      fits = laws.still_fits _ _ _ done _ _ before.fits next;
      scanned = scanned_next laws coarse.plan.grid (in_block k (k + 1) s.row (s.row + r)) done
          (in_block k (k + 1) s.row (s.row + (r + 1))) _ _ _ c.requires.fits before.scanned next
          (λ i j _ _. pair_next k s.row r s.column i j (omega (arith, c.requires.apart)));
      exact = subst (λ behind. IsExact coarse.plan.grid behind c.take_pair.new.exact)
          (omega (arith, c.requires.apart)) c.take_pair.ensures.exact;
      rows_need = rows_need_stays limits coarse done _ _ before.fits next _ _ _ _ before.rows_need;
      columns_need = λ q few. column_need_stays limits coarse done _ _ before.fits next _ _ _
          (before.columns_need q few);
    }
