use Rattle.std.proofs.Common.{◌<◌, ◌∙◌, arith, length}
use Rattle.std.specs.Prelude.{None}
use Rattle.std.proofs.lemmas.List.{get_or_default}
use Rattle.mp_anytime.proofs.SlotLemmas.{all_merged, merged_next, none_merged}
use Rattle.mp_anytime.proofs.sides.merge_slots.Goals as goal

pub loop-place-init : goal.loop-place-init
loop-place-init c = none_merged c.args.slots.now c.args.others.now

pub loop-place-preserved : goal.loop-place-preserved
loop-place-preserved c =
    let place = c.loop-place.place in
    let others = c.args.others.now in
    let lt : place < length others = omega arith in
    merged_next place c.args.slots.now others c.loop-place.slots _ c.index-others-place.result (omega arith)
    c.loop-place.invariant
    (c.index-others-place.is ∙ get_or_default others place c.index-others-place.result None lt) c.take_at.ensures

pub returns : goal.returns
returns c =
    all_merged c.loop-place.place c.args.slots.now c.args.others.now c.loop-place.slots c.requires (omega arith)
    c.loop-place.invariant
