use Rattle.std.proofs.Common.{◌<◌, ◌∙◌, arith, length, refl}
use Rattle.std.specs.Prelude.{None}
use Rattle.std.proofs.lemmas.List.{get_or_default}
use Rattle.mp_anytime.proofs.SlotLemmas.{all_merged, merged_next, none_merged}
use Rattle.mp_anytime.proofs.pairs.offer_later.Goals as goal

pub loop-place-init : goal.loop-place-init
loop-place-init c = record {
  merged = none_merged c.args.into.now.right c.args.slots.now;
  left = refl;
  spare = refl;
  places = refl;
}

pub loop-place-preserved : goal.loop-place-preserved
loop-place-preserved c =
    let place = c.loop-place.place in
    let slots = c.args.slots.now in
    let lt : place < length slots = omega arith in
    record {
      merged = merged_next place c.args.into.now.right slots c.loop-place.into.right _ c.slot.result
          (omega (arith, lt, c.requires.places, c.len-windows.ensures.all, c.len-windows.ensures.right))
          c.loop-place.invariant.merged
          (c.slot.ensures ∙ c.index-slots-place.is ∙ get_or_default slots place c.index-slots-place.result None lt)
          c.offer_right.ensures.right;
      left = c.offer_right.ensures.left ∙ c.loop-place.invariant.left;
      spare = c.offer_right.ensures.spare ∙ c.loop-place.invariant.spare;
      places = c.offer_right.ensures.places ∙ c.loop-place.invariant.places;
    }

pub returns-clause-right : goal.returns-clause-right
returns-clause-right c =
    all_merged c.loop-place.place c.args.into.now.right c.args.slots.now c.loop-place.into.right
    (omega (arith, c.requires.places, c.len-windows.ensures.all, c.len-windows.ensures.right))
    (omega (arith, c.requires.places, c.len-windows.ensures.all, c.len-windows.ensures.right))
    c.loop-place.invariant.merged
