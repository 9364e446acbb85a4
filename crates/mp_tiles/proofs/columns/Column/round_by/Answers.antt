use Rattle.std.proofs.Common.{◌+◌, ◌∙◌, List, ℤ, length, set, to_z, of_z, ap, arith, rules, subst, sym, w32, FitsSigned}
use Rattle.std.proofs.Common.{get_or}
use Rattle.std.specs.Prelude.{None}
use Rattle.std.proofs.lemmas.Int.{to_z-of_z}
use Rattle.std.proofs.lemmas.List.{length-set, with_items_is}
use Rattle.mp_tiles.specs.Compact.{slot_bound}
use Rattle.mp_tiles.proofs.ColumnLemmas.{AreBoundsBelow, bounds_next, bounds_all}
use Rattle.mp_tiles.specs.Sides.{Stored}
use Rattle.mp_tiles.proofs.columns.Column.round_by.Goals as goal

pub loop-k-preserved : goal.loop-k-preserved
loop-k-preserved c =
    let rounding = c.args.rounding.now in
    let inside = c.loop-k.self-inside in
    let k = c.loop-k.k in
    let fits : FitsSigned w32 c.bound_of-bound.result = search rules in
    let bound : ℤ = to_z w32 (of_z w32 c.bound_of-bound.result) in
    let bounds : List ℤ = set c.as_mut_slice.result.now k bound in
    record {
      slots = c.loop-k.invariant.slots;
      bounds = subst (AreBoundsBelow (k + 1) rounding.m rounding.shift inside.slots.items)
          (sym (with_items_is inside.bounds bounds
          (length-set c.as_mut_slice.result.now k bound ∙ c.as_mut_slice.ensures.len)))
          (bounds_next k rounding.m rounding.shift inside.slots.items inside.bounds.items _ bound
          (omega (arith, ap length c.loop-k.invariant.slots, ap (λ (s : Stored). length s.slots) c.self.view_is))
          c.as_mut_slice.ensures.value
          c.loop-k.invariant.bounds
          (to_z-of_z w32 c.bound_of-bound.result fits ∙ c.bound_of-bound.ensures
          ∙ ap (slot_bound rounding.m rounding.shift)
          (c.slot_at.ensures ∙ ap (λ slots. get_or slots k None) c.as_slice.ensures.value)));
      room = c.loop-k.invariant.room;
    }

pub invariant_of-self : goal.invariant_of-self
invariant_of-self c =
    bounds_all c.loop-k.k c.args.rounding.now.m c.args.rounding.now.shift c.loop-k.self-inside.slots.items
    c.loop-k.self-inside.bounds.items
    (omega (arith, ap length c.loop-k.invariant.slots, ap (λ (s : Stored). length s.slots) c.self.view_is))
    c.loop-k.invariant.bounds
