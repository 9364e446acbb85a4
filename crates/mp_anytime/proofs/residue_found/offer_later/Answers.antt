use Rattle.std.proofs.Common.{◌<◌, ◌∙◌, arith, length, refl, subst, sym}
use Rattle.std.specs.Prelude.{IfSome}
use Rattle.mp_anytime.proofs.SlotLemmas.{all_merged, merged_next, none_merged}
use Rattle.mp_anytime.proofs.residue_found.offer_later.Goals as goal

pub loop-place-init : goal.loop-place-init
loop-place-init c = record {
  merged = none_merged c.args.into.now.right c.args.side.now;
  left = refl;
  spare = refl;
  places = refl;
}

pub loop-place-preserved : goal.loop-place-preserved
loop-place-preserved c =
    let place = c.loop-place.place in
    let slots = c.args.side.now in
    let lt : place < length slots = omega
    (arith, c.loop-place-test.true, c.loop-place.auto.place-end, c.len-place-end.ensures) in
    record {
      merged = merged_next place c.args.into.now.right slots c.loop-place.into.right _ c.slot.result
          (omega (arith, lt, c.requires.places, c.len-windows.ensures.all, c.len-windows.ensures.right))
          c.loop-place.invariant.merged
          c.slot.ensures
          c.offer_right.ensures.right;
      left = c.offer_right.ensures.left ∙ c.loop-place.invariant.left;
      spare = c.offer_right.ensures.spare ∙ c.loop-place.invariant.spare;
      places = c.offer_right.ensures.places ∙ c.loop-place.invariant.places;
    }

pub returns-clause-right : goal.returns-clause-right
returns-clause-right c =
    all_merged c.loop-place.place c.args.into.now.right c.args.side.now c.loop-place.into.right
    (omega (arith, c.requires.places, c.len-windows.ensures.all, c.len-windows.ensures.right))
    (omega (
      arith,
      c.requires.places,
      c.len-windows.ensures.all,
      c.len-windows.ensures.right,
      c.loop-place-test.false,
      c.len-place-end.ensures,
    ))
    c.loop-place.invariant.merged

pub offer_right-requires-clause-within : goal.offer_right-requires-clause-within
offer_right-requires-clause-within c =
    omega (
      arith,
      c.requires.places,
      c.loop-place.invariant.places,
      c.loop-place-test.true,
      c.loop-place.auto.place-end,
      c.len-place-end.ensures,
    )

pub offer_right-requires-clause-later : goal.offer_right-requires-clause-later
offer_right-requires-clause-later c =
    let place = c.loop-place.place in
    subst (λ w. IfSome c.slot.result (λ near. (place < near.index) × (near.index < w)))
    (sym c.loop-place.invariant.places)
    (subst (λ s. IfSome s (λ near. (place < near.index) × (near.index < length c.args.into.now.all)))
    (sym c.slot.ensures)
    (c.requires.later.each place
    (omega (arith, c.loop-place-test.true, c.loop-place.auto.place-end, c.len-place-end.ensures))))
