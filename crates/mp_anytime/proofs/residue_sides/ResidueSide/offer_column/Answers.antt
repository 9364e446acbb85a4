use Rattle.std.proofs.Common.{◌<◌, ◌∙◌, arith, length, sym, get_or}
use Rattle.std.specs.Prelude.{None}
use Rattle.std.proofs.Math.ListN.{get_or-map}
use Rattle.std.proofs.lemmas.List.{length-map}
use Rattle.mp_anytime.specs.Bounds.{has_residue, numbered, numbered_slots}
use Rattle.mp_anytime.proofs.SlotLemmas.{all_merged, merged_next, none_merged}
use Rattle.mp_anytime.proofs.residue_sides.ResidueSide.offer_column.Goals as goal

pub loop-place-init : goal.loop-place-init
loop-place-init c = none_merged c.args.self.now (numbered_slots has_residue c.args.column.now)

pub offer_slot-requires : goal.offer_slot-requires
offer_slot-requires c =
    omega (arith, c.requires, c.loop-place.invariant.places, c.loop-place-test.true, c.loop-place.auto.place-end)

pub loop-place-preserved : goal.loop-place-preserved
loop-place-preserved c =
    let place = c.loop-place.place in
    let column = c.args.column.now in
    let lt : place < length column = omega (arith, c.loop-place-test.true, c.loop-place.auto.place-end) in
    merged_next place c.args.self.now (numbered_slots has_residue column) c.loop-place.self _
    (numbered has_residue (get_or column place None)) (omega (arith, lt, c.requires)) c.loop-place.invariant
    (sym (get_or-map (numbered has_residue) column place None)) c.offer_slot.ensures

pub returns : goal.returns
returns c =
    all_merged c.loop-place.place c.args.self.now (numbered_slots has_residue c.args.column.now) c.loop-place.self
    (length-map c.args.column.now (numbered has_residue) ∙ c.requires)
    (omega (arith, c.requires, c.loop-place-test.false, c.loop-place.auto.place-end)) c.loop-place.invariant
