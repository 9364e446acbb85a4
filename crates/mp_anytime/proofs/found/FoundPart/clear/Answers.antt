use Rattle.std.proofs.Common.{◌≡◌, ◌∙◌, ap, arith, length, sym}
use Rattle.std.specs.Prelude.{Option, None}
use Rattle.std.proofs.lemmas.List.{length-replicate}
use Rattle.mp_nums.specs.declared.nearest.Near.{Near}
use Rattle.mp_partial.specs.Values.{empty_column, empty_columns}
use Rattle.mp_anytime.specs.Bounds.{Bounded}
use Rattle.mp_anytime.proofs.SlotLemmas.{always_unit, both_long, sides_cleared, sides_have_all}
use Rattle.mp_anytime.proofs.found.FoundPart.clear.Goals as goal

pub invariant_of-self : goal.invariant_of-self
invariant_of-self c =
    let m = c.self.inside.rounding.m in
    let shift = c.self.inside.rounding.shift in (
      always_unit m shift _ _ _ c.clear-2.ensures.slots c.clear-2.ensures.bounds,
      always_unit m shift _ _ _ c.clear.ensures.slots c.clear.ensures.bounds,
      ap length (c.clear-2.ensures.slots ∙ ap empty_column c.self.invariant.2 ∙ sym c.clear.ensures.slots),
    )

pub returns-clause-value : goal.returns-clause-value
returns-clause-value c =
    let inside = c.self.inside in
    let n = length inside.left.slots in
    let same : n ≡ length c.args.self.now.profile.all =
    sym (both_long inside.left.slots inside.right.slots c.self.invariant.2)
    ∙ ap (λ (v : Bounded). length v.profile.all) c.self.view_is in
    sides_cleared n _ _ c.clear.ensures.slots (c.clear-2.ensures.slots ∙ ap empty_column c.self.invariant.2)
    ∙ ap (empty_columns 3) same

pub returns-clause-size : goal.returns-clause-size
returns-clause-size c =
    let inside = c.self.inside in
    both_long c.clear.new.self.slots c.clear-2.new.self.slots
    (ap length (c.clear-2.ensures.slots ∙ ap empty_column c.self.invariant.2 ∙ sym c.clear.ensures.slots))
    ∙ ap length c.clear.ensures.slots ∙ length-replicate {A = Option Near} (length inside.left.slots) None
    ∙ sym (both_long inside.left.slots inside.right.slots c.self.invariant.2)
    ∙ ap (λ (v : Bounded). length v.profile.all) c.self.view_is

pub returns-clause-is_value : goal.returns-clause-is_value
returns-clause-is_value c =
    sides_have_all c.clear.new.self.slots c.clear-2.new.self.slots
    (ap length (c.clear-2.ensures.slots ∙ ap empty_column c.self.invariant.2 ∙ sym c.clear.ensures.slots))

pub returns-clause-room : goal.returns-clause-room
returns-clause-room c =
    omega (
      arith,
      c.clear.ensures.room,
      c.clear-2.ensures.room,
      ap (λ (v : Bounded). v.profile.room) c.self.view_is,
    )
