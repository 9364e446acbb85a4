use Rattle.std.proofs.Common.{◌+◌, arith}
use Rattle.mp_stream.proofs.Taken.{best_more, offered_none, offered_one, offered_then}
use Rattle.mp_stream.proofs.offers.offer_each.Goals as goal

pub loop-i-init : goal.loop-i-init
loop-i-init c = record {
  offered = offered_none _ _ _ _ _ _ c.requires.ready;
  best = c.requires.best;
}

pub loop-i-preserved : goal.loop-i-preserved
loop-i-preserved c =
    let inv = c.loop-i.invariant in
    let i = c.loop-i.i in
    record {
      offered = offered_then _ _ _ _ c.args.first i (i + 1) _ _ _ (omega arith) (omega arith) inv.offered
          (offered_one _ _ _ _ i _ _ (omega arith) inv.offered.ready c.offer_window.ensures.right
          c.offer_window.ensures.only c.offer_window.ensures.ready);
      best = best_more _ _ _ _ _ inv.best c.offer_window.ensures.best;
    }
