use Rattle.std.proofs.Common.{◌∙◌, ap, arith, length, subst, sym}
use Rattle.mp_partial.specs.Values.{Column}
use Rattle.mp_anytime.specs.Bounds.{AreBounds, Bounded, columns_of}
use Rattle.mp_anytime.proofs.SlotLemmas.{both_long, one_length, sides_have_all, sides_same}
use Rattle.mp_anytime.proofs.found.FoundPart.take_over.Goals as goal

pub copy_from-requires : goal.copy_from-requires
copy_from-requires c =
    one_length c.self.inside.left.slots c.self.inside.right.slots c.other.inside.left.slots c.other.inside.right.slots
    c.self.invariant.2 c.other.invariant.2
    (ap (λ (v : Bounded). length v.profile.all) c.other.view_is ∙ sym c.requires.size
    ∙ sym (ap (λ (v : Bounded). length v.profile.all) c.self.view_is))

pub copy_from-requires-2 : goal.copy_from-requires-2
copy_from-requires-2 c =
    c.other.invariant.2
    ∙ one_length c.self.inside.left.slots c.self.inside.right.slots
    c.other.inside.left.slots c.other.inside.right.slots
    c.self.invariant.2 c.other.invariant.2
    (ap (λ (v : Bounded). length v.profile.all) c.other.view_is ∙ sym c.requires.size
    ∙ sym (ap (λ (v : Bounded). length v.profile.all) c.self.view_is))
    ∙ sym c.self.invariant.2

pub invariant_of-self : goal.invariant_of-self
invariant_of-self c =
    let other = c.other.inside in
    let m = other.rounding.m in
    let shift = other.rounding.shift in (
      subst (λ (v : Column). AreBounds m shift v c.copy_from-2.new.self.bounds) (sym c.copy_from-2.ensures.slots)
          (subst (AreBounds m shift other.right.slots) (sym c.copy_from-2.ensures.bounds) c.other.invariant.0),
      subst (λ (v : Column). AreBounds m shift v c.copy_from.new.self.bounds) (sym c.copy_from.ensures.slots)
          (subst (AreBounds m shift other.left.slots) (sym c.copy_from.ensures.bounds) c.other.invariant.1),
      ap length c.copy_from-2.ensures.slots ∙ c.other.invariant.2 ∙ sym (ap length c.copy_from.ensures.slots),
    )

pub returns-clause-value : goal.returns-clause-value
returns-clause-value c =
    sides_same _ _ _ _ c.copy_from.ensures.slots c.copy_from-2.ensures.slots
    ∙ ap (λ (v : Bounded). columns_of v.profile) c.other.view_is

pub returns-clause-size : goal.returns-clause-size
returns-clause-size c =
    both_long c.copy_from.new.self.slots c.copy_from-2.new.self.slots
    (ap length c.copy_from-2.ensures.slots ∙ c.other.invariant.2 ∙ sym (ap length c.copy_from.ensures.slots))
    ∙ ap length c.copy_from.ensures.slots
    ∙ sym (both_long c.other.inside.left.slots c.other.inside.right.slots c.other.invariant.2)
    ∙ ap (λ (v : Bounded). length v.profile.all) c.other.view_is

pub returns-clause-is_value : goal.returns-clause-is_value
returns-clause-is_value c =
    sides_have_all c.copy_from.new.self.slots c.copy_from-2.new.self.slots
    (ap length c.copy_from-2.ensures.slots ∙ c.other.invariant.2 ∙ sym (ap length c.copy_from.ensures.slots))

pub returns-clause-room : goal.returns-clause-room
returns-clause-room c =
    omega (
      arith,
      c.copy_from.ensures.room,
      c.copy_from-2.ensures.room,
      ap (λ (v : Bounded). v.profile.room) c.self.view_is,
    )
