use Rattle.mp_anytime.proofs.SlotLemmas.{AreMergedBelow}
use Rattle.mp_anytime.proofs.sides.merge_slots.Given as goal

abbrev pub invariant-loop-place : goal.invariant-loop-place
invariant-loop-place l = AreMergedBelow l.place l.initial.slots l.others l.slots
