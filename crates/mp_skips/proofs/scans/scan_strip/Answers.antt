use Rattle.std.proofs.Common.{◌+◌, ◌-◌, ◌*◌, ◌/◌, inl, min, max, arith}
use Rattle.mp_scans.specs.Windows.{column_windows}
use Rattle.mp_scans.specs.Offering.{in_block}
use Rattle.mp_skips.proofs.NeedLemmas.{rows_need_lowered}
use Rattle.mp_skips.proofs.PairLemmas.{scanned_next, no_pairs, blocks_cut, strip_next, strip_needs_stay}
use Rattle.mp_skips.proofs.scans.scan_strip.Goals as goal

pub loop-group-init : goal.loop-group-init
loop-group-init g c =
    let r = c.args.rows.now in
    record {
      after = omega (arith, c.requires.base);
      small = omega arith;
      fits = c.requires.fits;
      scanned = g.met.O.Offers.laws.none _ _ _ _ _ c.requires.fits
          (λ i j. no_pairs r.first (min r.end (8 * ((r.row + r.first) / 8) - r.row)) r.row (r.row + r.count) i j
          (inl (omega arith)));
      needs_stay = record {
        rows = rows_need_lowered c.args.coarse.now _ _ _ _ _ _ (λ lt. omega (arith, c.min.ensures, lt))
            c.rows_need-need.ensures;
        columns = c.requires.needs;
        small_rows = omega (arith, c.min.ensures);
        small_columns = c.requires.small;
      };
    }

pub take_groups-group-requires-clause-places : goal.take_groups-group-requires-clause-places
take_groups-group-requires-clause-places g c =
    omega (arith, c.loop-group-test.true, c.min-stop.ensures, c.requires.reach)

pub loop-group-preserved : goal.loop-group-preserved
loop-group-preserved g c =
    let laws = g.met.O.Offers.laws in
    let before = c.loop-group.invariant in
    let next = c.take_groups-group.ensures in
    let r = c.args.rows.now in
    let group = c.loop-group.group in
    let done = in_block (max r.first (8 * group - r.row)) (min r.end (8 * c.take_groups-group.result - r.row)) r.row
    (r.row + r.count) in
    record {
      after = omega (arith, before.after, next.behind);
      small = omega (arith, c.loop-group-test.true, next.near);
      fits = laws.still_fits _ _ _ done _ _ before.fits next.scanned;
      scanned = scanned_next laws c.args.coarse.now.plan.grid _ done _ _ _ _ c.requires.fits before.scanned next.scanned
          (λ i j _ _. strip_next r.first r.end r.row (r.row + r.count) group c.take_groups-group.result i j
          (omega (arith, next.behind)));
      needs_stay = strip_needs_stay g.met.O.Offers.limits c.args.coarse.now done _ _ before.fits next.scanned _
          _ _ _ _ _
          before.needs_stay;
    }

pub returns : goal.returns
returns g c =
    let r = c.args.rows.now in
    record {
      scanned = g.met.O.Offers.laws.same _ _ _ _ _ _ _ c.requires.fits c.loop-group.invariant.scanned
          (λ i j _ lt. blocks_cut r.first r.end r.row (r.row + r.count) (column_windows c.args.coarse.now.plan.grid)
          (8 * c.loop-group.group) i j
          (omega (arith, c.min-stop.ensures, c.count_columns.ensures, c.loop-group-test.false)) lt);
    }
