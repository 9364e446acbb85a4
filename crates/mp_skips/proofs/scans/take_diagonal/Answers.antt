use Rattle.std.proofs.Common.{◌≡◌, ◌+◌, ◌-◌, ◌∙◌, ap, refl, arith}
use Rattle.mp_scans.specs.Offering.{in_block}
use Rattle.mp_scans.specs.Windows.{column_windows}
use Rattle.mp_skips.proofs.LevelLemmas.{row_level, column_level, height_within, core_apart, core_some}
use Rattle.mp_skips.proofs.NeedLemmas.{rows_need_later}
use Rattle.mp_skips.proofs.PairLemmas.{quiet_diagonal, diagonal_cut}
use Rattle.mp_skips.proofs.scans.take_diagonal.Goals as goal

pub core_within-requires-clause-row : goal.core_within-requires-clause-row
core_within-requires-clause-row g c =
    row_level c.args.coarse.now c.args.rows.now.row (omega (arith, c.requires.are_rows, c.requires.some))

pub core_within-requires-clause-column : goal.core_within-requires-clause-column
core_within-requires-clause-column g c =
    column_level c.args.coarse.now (c.args.rows.now.row + c.args.behind) c.requires.column

pub core_within-requires-clause-behind : goal.core_within-requires-clause-behind
core_within-requires-clause-behind g c = height_within c.args.coarse.now

pub returns-in_default : goal.returns-in_default
returns-in_default g c =
    let coarse = c.args.coarse.now in
    let r = c.args.rows.now in
    let need = c.args.need.now in
    record {
      scanned = quiet_diagonal g.met.O.Offers.limits coarse c.args.into.now r.first r.row r.count c.args.behind
          need.need
          c.requires.apart c.requires.behind c.requires.count c.requires.rows_need c.requires.columns_need
          (core_apart coarse r.row (r.row + c.args.behind) need.need need.most c.requires.most
          c.in_default.ensures.none)
          (core_some coarse r.row (r.row + c.args.behind) need.need need.most c.requires.most c.in_default.ensures.none)
          c.requires.fits;
    }

pub returns-then-is_reached : goal.returns-then-is_reached
returns-then-is_reached g c =
    let r = c.args.rows.now in
    let need = c.args.need.now in
    record {
      scanned = quiet_diagonal g.met.O.Offers.limits c.args.coarse.now c.args.into.now r.first r.row r.count
          c.args.behind need.need c.requires.apart c.requires.behind c.requires.count c.requires.rows_need
          c.requires.columns_need (c.requires.sum (c.is_reached.ensures c.if-is_reached.true))
          (omega (arith, c.is_reached.ensures c.if-is_reached.true, c.requires.small)) c.requires.fits;
    }

pub scan_diagonal-requires-clause-rows_need : goal.scan_diagonal-requires-clause-rows_need
scan_diagonal-requires-clause-rows_need g c =
    let r = c.args.rows.now in
    rows_need_later c.args.coarse.now _ (r.row + r.first) (r.row + c.args.behind) r.row r.count _ c.args.need.now.need
    (omega (arith, c.requires.behind)) (omega (arith, c.min-count.ensures)) c.requires.rows_need

pub scan_diagonal-requires-clause-columns_need : goal.scan_diagonal-requires-clause-columns_need
scan_diagonal-requires-clause-columns_need g c = λ q few.
    c.requires.columns_need q (omega (arith, few, c.min-count.ensures, c.requires.count))

pub returns-in-Some : goal.returns-in-Some
returns-in-Some g c =
    let r = c.args.rows.now in
    let behind = c.args.behind in
    let wb = column_windows c.args.coarse.now.plan.grid in
    let count = c.min-count.result in
    let same : r.row + behind - r.row ≡ behind = omega arith in
    record {
      scanned = g.met.O.Offers.laws.same _ _ _ _ _ _ _ c.requires.fits c.scan_diagonal.ensures.scanned
          (λ i j _ lt. ap (λ n. in_block n (n + 1) r.row (r.row + count) i j) same
          ∙ diagonal_cut behind r.row r.count count (r.row + behind) wb i j refl
          (omega (arith, c.min-count.ensures, c.count_columns.ensures)) lt);
    }
