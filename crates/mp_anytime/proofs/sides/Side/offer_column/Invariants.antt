use Rattle.std.proofs.Common.{◌≡◌}
use Rattle.mp_anytime.specs.Bounds.{has_number, AreBounds, numbered_slots}
use Rattle.mp_anytime.proofs.SlotLemmas.{AreMergedBelow}
use Rattle.mp_anytime.proofs.sides.Side.offer_column.Given as goal

abbrev pub invariant-loop-place : goal.invariant-loop-place
invariant-loop-place l = record {
  merged : AreMergedBelow l.place l.initial.self.slots (numbered_slots has_number l.column) l.self.slots;
  bounds : AreBounds l.rounding.m l.rounding.shift l.self.slots l.self.bounds;
  room : l.self.room ≡ l.initial.self.room;
}
