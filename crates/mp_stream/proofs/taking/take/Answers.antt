use Rattle.std.proofs.Common.{◌+◌, sym, subst, arith, get_or}
use Rattle.mp_stream.specs.Limits.{StartsAtMost}
use Rattle.mp_stream.proofs.Taken.{best_more, best_starts, offered_none, offered_one, offered_then}
use Rattle.mp_stream.proofs.taking.take.Goals as goal

pub take_window-requires-clause-before : goal.take_window-requires-clause-before
take_window-requires-clause-before c =
    subst (StartsAtMost c.loop-i.i) (sym c.loop-i.invariant.best)
    (best_starts c.args.free.now (λ i. get_or c.args.sums.now i 0) c.loop-i.i)

pub loop-i-init : goal.loop-i-init
loop-i-init c = record {
  offered = offered_none _ _ _ _ _ _ c.requires.ready;
  best = c.requires.best;
}

pub loop-i-preserved : goal.loop-i-preserved
loop-i-preserved c =
    let inv = c.loop-i.invariant in
    let i = c.loop-i.i in
    record {
      offered = offered_then _ _ _ _ c.args.first i (i + 1) _ _ _ (omega arith) (omega arith) inv.offered
          (offered_one _ _ _ _ i _ _ (omega arith) inv.offered.ready c.take_window.ensures.right
          c.take_window.ensures.only c.take_window.ensures.ready);
      best = best_more _ _ _ _ _ inv.best c.take_window.ensures.best;
    }
