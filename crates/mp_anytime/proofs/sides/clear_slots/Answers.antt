use Rattle.std.proofs.Common.{arith, length}
use Rattle.mp_anytime.proofs.SlotLemmas.{all_cleared, cleared_next}
use Rattle.mp_anytime.proofs.sides.clear_slots.Goals as goal

pub loop-place-preserved : goal.loop-place-preserved
loop-place-preserved c =
    cleared_next c.loop-place.place c.loop-place.slots c.none.result (omega arith) c.loop-place.invariant c.none.ensures

pub returns : goal.returns
returns c =
    all_cleared (length c.args.slots.now) c.loop-place.slots (omega arith)
    (λ q lt. c.loop-place.invariant q (omega (arith, lt)))
