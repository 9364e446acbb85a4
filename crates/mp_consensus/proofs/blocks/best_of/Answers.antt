use Rattle.std.proofs.Common.{arith, sym, refl, subst, ◌+◌}
use Rattle.mp_consensus.proofs.Searching.{IsBestBelow, best_first, best_passed, best_taken}
use Rattle.mp_consensus.proofs.blocks.best_of.Goals as goal
use Rattle.mp_consensus.proofs.blocks.best_of.Goals.{in-Some, in_default}

pub loop-i-init : goal.loop-i-init
loop-i-init c = best_first c.args.best c.args.block c.args.reaches.now

pub loop-i-preserved : goal.loop-i-preserved
loop-i-preserved c =
    let reaches = c.args.reaches.now in
    let n = c.loop-i.i in
    elim c.match-reaches-i.branch [
      | in-Some w ↦
          subst (IsBestBelow c.args.best c.args.block reaches (n + 1)) (sym w.best-is)
          (best_taken c.args.best c.loop-i.best c.args.block reaches n w.in-Some.radius _ w.first_of.result
          (omega (arith, c.loop-i-test.true)) w.in-Some.is refl refl refl w.first_of.ensures.either
          w.first_of.ensures.found w.first_of.ensures.best c.loop-i.invariant)
      | in_default w ↦
          subst (IsBestBelow c.args.best c.args.block reaches (n + 1)) (sym w.best-is)
          (best_passed c.args.best c.loop-i.best c.args.block reaches n w.in_default.is c.loop-i.invariant)
    ]
