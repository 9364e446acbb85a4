use Rattle.std.proofs.Common.{◌∙◌, arith}
use Rattle.std.specs.Prelude.{None}
use Rattle.std.proofs.lemmas.List.{ext_get_or, get_or_default}
use Rattle.mp_anytime.proofs.SlotLemmas.{copied_next}
use Rattle.mp_anytime.proofs.sides.copy_slots.Goals as goal

pub loop-place-preserved : goal.loop-place-preserved
loop-place-preserved c =
    copied_next c.loop-place.place c.loop-place.slots c.args.others.now c.index-others-place.result (omega arith)
    c.loop-place.invariant
    (c.index-others-place.is
    ∙ get_or_default c.args.others.now c.loop-place.place c.index-others-place.result None (omega arith))

pub returns : goal.returns
returns c =
    ext_get_or None c.loop-place.slots c.args.others.now (omega arith)
    (λ q lt. c.loop-place.invariant q (omega (arith, lt)))
