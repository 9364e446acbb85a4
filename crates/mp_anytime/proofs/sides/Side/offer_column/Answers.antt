use Rattle.std.proofs.Common.{◌<◌, ◌∙◌, arith, length, refl, sym, get_or}
use Rattle.std.specs.Prelude.{None}
use Rattle.std.proofs.Math.ListN.{get_or-map}
use Rattle.std.proofs.lemmas.List.{length-map}
use Rattle.mp_anytime.specs.Bounds.{has_number, numbered, numbered_slots}
use Rattle.mp_anytime.proofs.SlotLemmas.{all_merged, merged_next, none_merged}
use Rattle.mp_anytime.proofs.sides.Side.offer_column.Goals as goal

pub loop-place-init : goal.loop-place-init
loop-place-init c = record {
  merged = none_merged c.args.self.now.slots (numbered_slots has_number c.args.column.now);
  bounds = c.requires.bounds;
  room = refl;
}

pub offer_slot-requires-clause-place : goal.offer_slot-requires-clause-place
offer_slot-requires-clause-place c = omega (arith, c.requires.places, c.loop-place.invariant.merged.places)

pub loop-place-preserved : goal.loop-place-preserved
loop-place-preserved c =
    let place = c.loop-place.place in
    let column = c.args.column.now in
    let lt : place < length column = omega arith in
    record {
      merged = merged_next place c.args.self.now.slots (numbered_slots has_number column) c.loop-place.self.slots _
          (numbered has_number (get_or column place None)) (omega (arith, lt, c.requires.places))
          c.loop-place.invariant.merged
          (sym (get_or-map (numbered has_number) column place None)) c.offer_slot.ensures.slots;
      bounds = c.offer_slot.ensures.bounds;
      room = c.offer_slot.ensures.room ∙ c.loop-place.invariant.room;
    }

pub returns-clause-slots : goal.returns-clause-slots
returns-clause-slots c =
    all_merged c.loop-place.place c.args.self.now.slots (numbered_slots has_number c.args.column.now)
    c.loop-place.self.slots
    (length-map c.args.column.now (numbered has_number) ∙ c.requires.places) (omega (arith, c.requires.places))
    c.loop-place.invariant.merged
