use Rattle.mp_anytime.specs.Bounds.{AreGreatest}
use Rattle.mp_anytime.proofs.bounds.Bounds.refresh.Given as goal

abbrev pub invariant-loop-block : goal.invariant-loop-block
invariant-loop-block l = AreGreatest l.windows l.blocks
