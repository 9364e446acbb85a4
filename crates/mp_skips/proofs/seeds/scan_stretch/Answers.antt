use Rattle.std.proofs.Common.{◌+◌, ◌-◌, inr, arith, subst}
use Rattle.mp_scans.specs.Exacts.{IsExact}
use Rattle.mp_scans.specs.Offering.{only, in_block}
use Rattle.mp_skips.proofs.PairLemmas.{scanned_next, no_pairs, pair_next}
use Rattle.mp_skips.proofs.seeds.scan_stretch.Goals as goal

pub loop-r-init : goal.loop-r-init
loop-r-init g c =
    let s = c.args.stretch.now in
    let k = s.column - s.row in
    record {
      fits = c.requires.fits;
      scanned = g.met.O.Offers.laws.none _ _ _ _ _ c.requires.fits
          (λ i j. no_pairs k (k + 1) s.row (s.row + 0) i j (inr (omega arith)));
      exact = tt;
    }

pub offer_pair-requires-clause-exact : goal.offer_pair-requires-clause-exact
offer_pair-requires-clause-exact g c =
    let s = c.args.stretch.now in
    subst (λ behind. IsExact c.args.coarse.now.plan.grid behind c.loop-r.exact) (omega (arith, c.requires.apart))
    c.loop-r.invariant.exact

pub loop-r-preserved : goal.loop-r-preserved
loop-r-preserved g c =
    let laws = g.met.O.Offers.laws in
    let before = c.loop-r.invariant in
    let next = c.offer_pair.ensures.scanned in
    let s = c.args.stretch.now in
    let r = c.loop-r.r in
    let k = s.column - s.row in
    let done = only (s.row + r) (s.column + r) in
    record {
      fits = laws.still_fits _ _ _ done _ _ before.fits next;
      scanned = scanned_next laws c.args.coarse.now.plan.grid (in_block k (k + 1) s.row (s.row + r)) done
          (in_block k (k + 1) s.row (s.row + (r + 1))) _ _ _ c.requires.fits before.scanned next
          (λ i j _ _. pair_next k s.row r s.column i j (omega (arith, c.requires.apart)));
      exact = subst (λ behind. IsExact c.args.coarse.now.plan.grid behind c.offer_pair.new.exact)
          (omega (arith, c.requires.apart)) c.offer_pair.ensures.exact;
    }
