use Rattle.std.proofs.Common.{◌<◌, ◌∙◌, arith, length, refl, subst, sym}
use Rattle.std.specs.Prelude.{IfSome}
use Rattle.mp_anytime.proofs.SlotLemmas.{all_merged, merged_next, none_merged}
use Rattle.mp_anytime.proofs.residue_found.offer_earlier.Goals as goal

pub loop-place-init : goal.loop-place-init
loop-place-init c = record {
  merged = none_merged c.args.into.now.left c.args.side.now;
  right = refl;
  spare = refl;
  places = refl;
}

pub loop-place-preserved : goal.loop-place-preserved
loop-place-preserved c =
    let place = c.loop-place.place in
    let slots = c.args.side.now in
    let lt : place < length slots = omega
    (arith, c.loop-place-test.true, c.loop-place.auto.place-end, c.len-place-end.ensures) in
    record {
      merged = merged_next place c.args.into.now.left slots c.loop-place.into.left _ c.slot.result
          (omega (arith, lt, c.requires.places, c.len-windows.ensures.all, c.len-windows.ensures.left))
          c.loop-place.invariant.merged
          c.slot.ensures
          c.offer_left.ensures.left;
      right = c.offer_left.ensures.right ∙ c.loop-place.invariant.right;
      spare = c.offer_left.ensures.spare ∙ c.loop-place.invariant.spare;
      places = c.offer_left.ensures.places ∙ c.loop-place.invariant.places;
    }

pub returns-clause-left : goal.returns-clause-left
returns-clause-left c =
    all_merged c.loop-place.place c.args.into.now.left c.args.side.now c.loop-place.into.left
    (omega (arith, c.requires.places, c.len-windows.ensures.all, c.len-windows.ensures.left))
    (omega (
      arith,
      c.requires.places,
      c.len-windows.ensures.all,
      c.len-windows.ensures.left,
      c.loop-place-test.false,
      c.len-place-end.ensures,
    ))
    c.loop-place.invariant.merged

pub offer_left-requires-clause-within : goal.offer_left-requires-clause-within
offer_left-requires-clause-within c =
    omega (
      arith,
      c.requires.places,
      c.loop-place.invariant.places,
      c.loop-place-test.true,
      c.loop-place.auto.place-end,
      c.len-place-end.ensures,
    )

pub offer_left-requires-clause-earlier : goal.offer_left-requires-clause-earlier
offer_left-requires-clause-earlier c =
    subst (λ s. IfSome s (λ near. near.index < c.loop-place.place)) (sym c.slot.ensures)
    (c.requires.earlier.each c.loop-place.place
    (omega (arith, c.loop-place-test.true, c.loop-place.auto.place-end, c.len-place-end.ensures)))
