use Rattle.std.proofs.Common.{◌∙◌, List, ℤ, length, set, to_z, of_z, ap, arith, rules, subst, sym, w32, FitsSigned}
use Rattle.std.specs.Prelude.{Option}
use Rattle.std.specs.Vec.{with_items}
use Rattle.std.proofs.lemmas.Int.{to_z-of_z}
use Rattle.std.proofs.lemmas.List.{length-set, with_items_is}
use Rattle.mp_nums.specs.declared.nearest.Near.{Near}
use Rattle.mp_tiles.specs.Compact.{AreBounds, slot_bound}
use Rattle.mp_tiles.proofs.ColumnLemmas.{bounds_set}
use Rattle.mp_tiles.specs.Sides.{Stored}
use Rattle.mp_tiles.proofs.columns.Column.set.Goals as goal

pub invariant_of-self : goal.invariant_of-self
invariant_of-self c =
    let inside = c.self.inside in
    let m = inside.rounding.m in
    let shift = inside.rounding.shift in
    let place = c.args.place in
    let fits : FitsSigned w32 c.bound_of-bound.result = search rules in
    let bound : ℤ = to_z w32 (of_z w32 c.bound_of-bound.result) in
    let slots : List (Option Near) = set c.as_mut_slice-2.result.now place c.args.slot in
    let bounds : List ℤ = set c.as_mut_slice.result.now place bound in
    subst (λ v. AreBounds m shift v (with_items inside.bounds bounds).items)
    (sym (with_items_is inside.slots slots
    (length-set c.as_mut_slice-2.result.now place c.args.slot ∙ c.as_mut_slice-2.ensures.len)))
    (subst (AreBounds m shift slots)
    (sym (with_items_is inside.bounds bounds
    (length-set c.as_mut_slice.result.now place bound ∙ c.as_mut_slice.ensures.len)))
    (bounds_set place m shift inside.slots.items _ inside.bounds.items _ c.args.slot bound
    c.as_mut_slice-2.ensures.value c.as_mut_slice.ensures.value
    (omega (arith, c.requires, ap (λ (s : Stored). length s.slots) c.self.view_is))
    c.self.invariant
    (to_z-of_z w32 c.bound_of-bound.result fits ∙ c.bound_of-bound.ensures
    ∙ ap (slot_bound m shift) c.slot.ensures)))
