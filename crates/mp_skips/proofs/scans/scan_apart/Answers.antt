use Rattle.std.proofs.Common.{◌+◌, inl, inr, refl, arith}
use Rattle.mp_scans.specs.Offering.{in_block}
use Rattle.mp_scans.specs.Windows.{column_windows}
use Rattle.mp_skips.proofs.PairLemmas.{scanned_next, no_pairs, diagonals_next, diagonals_cut}
use Rattle.mp_skips.proofs.scans.scan_apart.Goals as goal

pub loop-start-init : goal.loop-start-init
loop-start-init g c = record {
  after = omega arith;
  order = inr refl;
  fits = c.requires.fits;
  scanned = g.met.O.Offers.laws.none _ _ _ _ _ c.requires.fits
      (λ i j. no_pairs c.args.first c.args.first c.args.top c.args.bottom i j (inl (omega arith)));
}

pub loop-start-preserved : goal.loop-start-preserved
loop-start-preserved g c =
    let laws = g.met.O.Offers.laws in
    let before = c.loop-start.invariant in
    let next = c.scan_diagonals.ensures in
    let start = c.loop-start.start in
    let end = start + c.min-width.result in
    record {
      after = omega (arith, before.after, c.min-width.ensures, c.loop-start-test.true);
      order = inl (omega (arith, c.min-width.ensures, c.loop-start-test.true));
      fits = laws.still_fits _ _ _ (in_block start end c.args.top c.args.bottom) _ _ before.fits next.scanned;
      scanned = scanned_next laws c.args.coarse.now.plan.grid _ _ _ _ _ _ c.requires.fits before.scanned next.scanned
          (λ i j _ _. diagonals_next c.args.first start end c.args.top c.args.bottom i j before.after
          (omega (arith, c.min-width.ensures, c.loop-start-test.true)));
    }

pub returns : goal.returns
returns g c = record {
  scanned = g.met.O.Offers.laws.same _ _ _ _ _ _ _ c.requires.fits c.loop-start.invariant.scanned
      (λ i j _ lt. diagonals_cut c.args.first c.args.end c.min-stop.result c.loop-start.start c.args.top c.args.bottom
      (column_windows c.args.coarse.now.plan.grid) i j
      (omega (arith, c.min-stop.ensures, c.saturating_sub-columns.ensures, c.count_columns.ensures)) (omega arith)
      c.loop-start.invariant.order lt);
}
