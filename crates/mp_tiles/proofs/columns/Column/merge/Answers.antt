use Rattle.std.proofs.Common.{◌∙◌, List, ℤ, refl, subst, sym}
use Rattle.std.specs.Prelude.{Option}
use Rattle.std.specs.Vec.{with_items}
use Rattle.std.proofs.lemmas.List.{with_items_is}
use Rattle.mp_nums.specs.declared.nearest.Near.{Near}
use Rattle.mp_tiles.specs.Compact.{AreBounds}
use Rattle.mp_tiles.proofs.ColumnLemmas.{bounds_same}
use Rattle.mp_tiles.proofs.columns.Column.merge.Goals as goal

pub invariant_of-self : goal.invariant_of-self
invariant_of-self c =
    let inside = c.self.inside in
    let other = c.other.inside in
    let m = inside.rounding.m in
    let shift = inside.rounding.shift in
    let slots : List (Option Near) = c.merge_alike.new.slots in
    let bounds : List ℤ = c.merge_alike.new.bounds in
    subst (λ v. AreBounds m shift v (with_items inside.bounds bounds).items)
    (sym (with_items_is inside.slots slots (c.merge_alike.auto.slots ∙ c.as_mut_slice.ensures.len)))
    (subst (AreBounds m shift slots)
    (sym (with_items_is inside.bounds bounds (c.merge_alike.auto.bounds ∙ c.as_mut_slice-then-are_alike.ensures.len)))
    (c.merge_alike.ensures.bounds m shift
    (bounds_same m m shift shift c.as_mut_slice.result.now inside.slots.items c.as_mut_slice-then-are_alike.result.now
    inside.bounds.items refl refl c.as_mut_slice.ensures.value c.as_mut_slice-then-are_alike.ensures.value
    c.self.invariant)
    (bounds_same m other.rounding.m shift other.rounding.shift c.as_slice.result.now other.slots.items
    c.as_slice-then-are_alike.result.now other.bounds.items (c.if-are_alike.ensures.m refl)
    (c.if-are_alike.ensures.shift refl) c.as_slice.ensures.value c.as_slice-then-are_alike.ensures.value
    c.other.invariant)))
