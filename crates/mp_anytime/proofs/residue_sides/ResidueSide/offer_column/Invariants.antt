use Rattle.mp_anytime.specs.Bounds.{has_residue, numbered_slots}
use Rattle.mp_anytime.proofs.SlotLemmas.{AreMergedBelow}
use Rattle.mp_anytime.proofs.residue_sides.ResidueSide.offer_column.Given as goal

abbrev pub invariant-loop-place : goal.invariant-loop-place
invariant-loop-place l = AreMergedBelow l.place l.initial.self (numbered_slots has_residue l.column) l.self
