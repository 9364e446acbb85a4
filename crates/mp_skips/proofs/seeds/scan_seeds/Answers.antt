use Rattle.mp_skips.proofs.SeedLemmas.{ahead_none, ahead_then, none_scanned, some_then}
use Rattle.mp_skips.proofs.seeds.scan_seeds.Goals as goal

pub loop-k-init : goal.loop-k-init
loop-k-init g c = record {
  ahead = ahead_none _ _ _ _;
  fits = c.requires.fits;
  some = none_scanned g.met.O.Offers.laws c.args.coarse.now.plan.grid _ c.requires.fits;
}

pub loop-k-preserved : goal.loop-k-preserved
loop-k-preserved g c = record {
  ahead = ahead_then _ _ _ _ _ _ (ahead_then _ _ _ _ _ _ c.loop-k.invariant.ahead c.scan_seed.ensures.ahead)
      c.scan_seed-in-loop-k.ensures.ahead;
  fits = c.scan_seed-in-loop-k.ensures.fits;
  some = some_then g.met.O.Offers.laws c.args.coarse.now.plan.grid _ _ _
      (some_then g.met.O.Offers.laws c.args.coarse.now.plan.grid _ _ _ c.loop-k.invariant.some c.scan_seed.ensures.some)
      c.scan_seed-in-loop-k.ensures.some;
}
