use Rattle.std.proofs.Common.{◌∙◌, ap, List, ℤ, refl, subst, sym}
use Rattle.std.specs.Prelude.{Option}
use Rattle.std.specs.Vec.{with_items}
use Rattle.std.proofs.lemmas.List.{with_items_is}
use Rattle.mp_nums.specs.declared.nearest.Near.{Near}
use Rattle.mp_tiles.specs.Compact.{AreBounds}
use Rattle.mp_tiles.proofs.ColumnLemmas.{bounds_same}
use Rattle.mp_tiles.specs.Sides.{Stored}
use Rattle.mp_tiles.proofs.columns.Column.copy_from.Goals as goal

pub invariant_of-self : goal.invariant_of-self
invariant_of-self c =
    let inside = c.self.inside in
    let other = c.other.inside in
    let m = other.rounding.m in
    let shift = other.rounding.shift in
    let slots : List (Option Near) = c.copy_slots.new.slots in
    let bounds : List ℤ = c.copy_from_slice.new.self in
    subst (λ v. AreBounds m shift v (with_items inside.bounds bounds).items)
    (sym (with_items_is inside.slots slots (c.copy_slots.auto.slots ∙ c.as_mut_slice.ensures.len)))
    (subst (AreBounds m shift slots)
    (sym (with_items_is inside.bounds bounds (c.copy_from_slice.ensures.len ∙ c.as_mut_slice-2.ensures.len)))
    (bounds_same m m shift shift slots other.slots.items bounds other.bounds.items refl refl
    (c.copy_slots.ensures ∙ c.as_slice.ensures.value) (c.copy_from_slice.ensures.after ∙ c.as_slice-2.ensures.value)
    c.other.invariant))

pub returns-clause-slots : goal.returns-clause-slots
returns-clause-slots c =
    with_items_is c.self.inside.slots c.copy_slots.new.slots (c.copy_slots.auto.slots ∙ c.as_mut_slice.ensures.len)
    ∙ c.copy_slots.ensures ∙ c.as_slice.ensures.value ∙ ap (λ (s : Stored). s.slots) c.other.view_is
