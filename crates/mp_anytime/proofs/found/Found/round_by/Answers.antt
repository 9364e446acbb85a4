use Rattle.std.proofs.Common.{◌∙◌, ap, length, sym}
use Rattle.mp_anytime.proofs.SlotLemmas.{always_of}
use Rattle.mp_anytime.proofs.found.Found.round_by.Goals as goal

pub invariant_of-self : goal.invariant_of-self
invariant_of-self c =
    let rounding = c.args.rounding.now in (
      always_of rounding.m rounding.shift _ _ _ c.forget_bounds.ensures.slots c.forget_bounds.ensures.bounds,
      always_of rounding.m rounding.shift _ _ _ c.forget_bounds-2.ensures.slots c.forget_bounds-2.ensures.bounds,
      ap length c.forget_bounds.ensures.slots ∙ c.self.invariant.2
          ∙ sym (ap length c.forget_bounds-2.ensures.slots),
    )
