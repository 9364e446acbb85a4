use Rattle.mp_partial.proofs.Merging.{IsMergedBelow}
use Rattle.mp_partial.proofs.columns.merge_each.Given as goal

abbrev pub invariant-loop-i : goal.invariant-loop-i
invariant-loop-i l = IsMergedBelow l.initial.slots l.others l.i l.slots
