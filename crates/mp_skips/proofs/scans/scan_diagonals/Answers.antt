use Rattle.std.proofs.Common.{◌+◌, inr, arith}
use Rattle.mp_scans.specs.Offering.{in_block}
use Rattle.mp_skips.proofs.PairLemmas.{scanned_next, no_pairs, rows_next, rows_all}
use Rattle.mp_skips.proofs.scans.scan_diagonals.Goals as goal

pub loop-row-init : goal.loop-row-init
loop-row-init g c = record {
  after = omega arith;
  before = omega arith;
  fits = c.requires.fits;
  scanned = g.met.O.Offers.laws.none _ _ _ _ _ c.requires.fits
      (λ i j. no_pairs c.args.first c.args.end c.args.top c.args.top i j (inr (omega arith)));
}

pub loop-row-preserved : goal.loop-row-preserved
loop-row-preserved g c =
    let laws = g.met.O.Offers.laws in
    let before = c.loop-row.invariant in
    let next = c.scan_rows.ensures in
    let row = c.loop-row.row in
    let end = row + c.min-count.result in
    record {
      after = omega (arith, before.after, c.min-count.ensures, c.loop-row-test.true);
      before = omega (arith, c.min-count.ensures, c.loop-row-test.true);
      fits = laws.still_fits _ _ _ (in_block c.args.first c.args.end row end) _ _ before.fits next.scanned;
      scanned = scanned_next laws c.args.coarse.now.plan.grid _ _ _ _ _ _ c.requires.fits before.scanned next.scanned
          (λ i j _ _. rows_next c.args.first c.args.end c.args.top row end i j before.after
          (omega (arith, c.min-count.ensures, c.loop-row-test.true)));
    }

pub returns : goal.returns
returns g c = record {
  scanned = g.met.O.Offers.laws.same _ _ _ _ _ _ _ c.requires.fits c.loop-row.invariant.scanned
      (λ i j _ _. rows_all c.args.first c.args.end c.args.top c.args.bottom c.loop-row.row i j
      (omega (arith, c.loop-row.invariant.before, c.loop-row-test.false)));
}
