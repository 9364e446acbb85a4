use Rattle.mp_consensus.proofs.Searching.{IsBestBelow}
use Rattle.mp_consensus.proofs.blocks.best_of.Given as goal

abbrev pub invariant-loop-i : goal.invariant-loop-i
invariant-loop-i l = IsBestBelow l.fn.best l.fn.block l.fn.reaches l.i l.best
