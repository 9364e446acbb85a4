use Rattle.std.proofs.Common.{◌+◌, inr, arith}
use Rattle.mp_scans.specs.Offering.{in_block}
use Rattle.mp_skips.proofs.NeedLemmas.{group_needs_stay}
use Rattle.mp_skips.proofs.PairLemmas.{scanned_next, no_pairs, rows_next, rows_all, group_needs_later}
use Rattle.mp_skips.proofs.scans.scan_strips.Goals as goal

pub loop-row-init : goal.loop-row-init
loop-row-init g c =
    let r = c.args.rows.now in
    record {
      after = omega arith;
      before = omega arith;
      fits = c.requires.fits;
      scanned = g.met.O.Offers.laws.none _ _ _ _ _ c.requires.fits
          (λ i j. no_pairs r.first r.end r.row r.row i j (inr (omega arith)));
      groups_need = c.requires.needs;
    }

pub scan_strip-requires-clause-needs : goal.scan_strip-requires-clause-needs
scan_strip-requires-clause-needs g c =
    group_needs_later c.args.coarse.now _ _ _ _ _ _ c.loop-row.invariant.after c.loop-row.invariant.groups_need

pub loop-row-preserved : goal.loop-row-preserved
loop-row-preserved g c =
    let laws = g.met.O.Offers.laws in
    let before = c.loop-row.invariant in
    let next = c.scan_strip.ensures in
    let r = c.args.rows.now in
    let row = c.loop-row.row in
    let n = c.min-count.result in
    let done = in_block r.first r.end row (row + n) in
    record {
      after = omega (arith, before.after);
      before = omega (arith, c.min-count.ensures, c.loop-row-test.true);
      fits = laws.still_fits _ _ _ done _ _ before.fits next.scanned;
      scanned = scanned_next laws c.args.coarse.now.plan.grid _ _ _ _ _ _ c.requires.fits before.scanned next.scanned
          (λ i j _ _. rows_next r.first r.end r.row row (row + n) i j before.after (omega arith));
      groups_need = group_needs_stay g.met.O.Offers.limits c.args.coarse.now done _ _ before.fits next.scanned _ _ _ _
          before.groups_need;
    }

pub returns : goal.returns
returns g c =
    let r = c.args.rows.now in
    record {
      scanned = g.met.O.Offers.laws.same _ _ _ _ _ _ _ c.requires.fits c.loop-row.invariant.scanned
          (λ i j _ _. rows_all r.first r.end r.row (r.row + r.count) c.loop-row.row i j
          (omega (arith, c.loop-row.invariant.before, c.loop-row-test.false)));
    }
