use Rattle.std.proofs.Common.{◌≡◌, ◌∙◌, ap, arith, length, subst, sym}
use Rattle.std.proofs.lemmas.List.{length-map}
use Rattle.mp_partial.specs.Profiled.{Profiled}
use Rattle.mp_partial.specs.Values.{Column, merged_column, merged_columns}
use Rattle.mp_anytime.specs.Bounds.{has_number, AreBounds, Bounded, OneSided, both_sides, columns_of, numbered}
use Rattle.mp_anytime.specs.Bounds.{numbered_slots}
use Rattle.mp_anytime.proofs.Entries.{kept_is}
use Rattle.mp_anytime.proofs.SlotLemmas.{both_long, merged_long, sides_have_all, sides_merged}
use Rattle.mp_anytime.proofs.found.Found.take_sides.Goals as goal

pub offer_column-requires-clause-places : goal.offer_column-requires-clause-places
offer_column-requires-clause-places c =
    ap length c.right.ensures ∙ sym c.len-windows.ensures.right ∙ c.len-windows.ensures.all ∙ c.requires.places
    ∙ sym (ap (λ (v : Bounded). length v.profile.all) c.self.view_is)
    ∙ both_long c.self.inside.left.slots c.self.inside.right.slots c.self.invariant.2 ∙ sym c.self.invariant.2

pub offer_column-requires-2-clause-places : goal.offer_column-requires-2-clause-places
offer_column-requires-2-clause-places c =
    ap length c.left.ensures ∙ sym c.len-windows.ensures.left ∙ c.len-windows.ensures.all ∙ c.requires.places
    ∙ sym (ap (λ (v : Bounded). length v.profile.all) c.self.view_is)
    ∙ both_long c.self.inside.left.slots c.self.inside.right.slots c.self.invariant.2

left_is : (c : goal.After-refresh-2)
    → c.refresh-2.new.self.slots ≡ merged_column c.self.inside.left.slots
    (numbered_slots has_number c.args.profile.now.left)
left_is c =
    ap (λ (s : OneSided). s.slots) c.refresh-2.ensures ∙ c.offer_column-2.ensures.slots
    ∙ ap (λ (v : Column). merged_column c.self.inside.left.slots (numbered_slots has_number v)) c.left.ensures

right_is : (c : goal.After-refresh-2)
    → c.refresh.new.self.slots ≡ merged_column c.self.inside.right.slots
    (numbered_slots has_number c.args.profile.now.right)
right_is c =
    ap (λ (s : OneSided). s.slots) c.refresh.ensures ∙ c.offer_column.ensures.slots
    ∙ ap (λ (v : Column). merged_column c.self.inside.right.slots (numbered_slots has_number v)) c.right.ensures

left_long : (c : goal.After-refresh-2) → length c.refresh-2.new.self.slots ≡ length c.self.inside.left.slots
left_long c =
    merged_long c.self.inside.left.slots _ (numbered_slots has_number c.args.profile.now.left)
    (length-map c.args.profile.now.left (numbered has_number) ∙ sym c.len-windows.ensures.left
    ∙ c.len-windows.ensures.all
    ∙ c.requires.places ∙ sym (ap (λ (v : Bounded). length v.profile.all) c.self.view_is)
    ∙ both_long c.self.inside.left.slots c.self.inside.right.slots c.self.invariant.2)
    (left_is c)

right_long : (c : goal.After-refresh-2) → length c.refresh.new.self.slots ≡ length c.self.inside.right.slots
right_long c =
    merged_long c.self.inside.right.slots _ (numbered_slots has_number c.args.profile.now.right)
    (length-map c.args.profile.now.right (numbered has_number) ∙ sym c.len-windows.ensures.right
    ∙ c.len-windows.ensures.all
    ∙ c.requires.places ∙ sym (ap (λ (v : Bounded). length v.profile.all) c.self.view_is)
    ∙ both_long c.self.inside.left.slots c.self.inside.right.slots c.self.invariant.2 ∙ sym c.self.invariant.2)
    (right_is c)

pub invariant_of-self : goal.invariant_of-self
invariant_of-self c =
    let m = c.self.inside.rounding.m in
    let shift = c.self.inside.rounding.shift in (
      subst (λ (s : OneSided). AreBounds m shift s.slots s.bounds) (sym c.refresh.ensures)
          c.offer_column.ensures.bounds,
      subst (λ (s : OneSided). AreBounds m shift s.slots s.bounds) (sym c.refresh-2.ensures)
          c.offer_column-2.ensures.bounds,
      right_long c ∙ c.self.invariant.2 ∙ sym (left_long c),
    )

pub returns-clause-value : goal.returns-clause-value
returns-clause-value c =
    let inside = c.self.inside in
    let p = c.args.profile.now in
    sides_merged inside.left.slots inside.right.slots _ _ (numbered_slots has_number p.left)
    (numbered_slots has_number p.right) (left_is c)
    (right_is c)
    ∙ ap (λ (v : Bounded). merged_columns (columns_of v.profile)
    (columns_of (both_sides (numbered_slots has_number p.left) (numbered_slots has_number p.right) 0))) c.self.view_is
    ∙ ap (λ (v : Profiled). merged_columns (columns_of c.args.self.now.profile) (columns_of v))
    (sym (kept_is has_number p (sym c.len-windows.ensures.left ∙ c.len-windows.ensures.all)
    (sym c.len-windows.ensures.right ∙ c.len-windows.ensures.all)))

pub returns-clause-places : goal.returns-clause-places
returns-clause-places c =
    let inside = c.self.inside in
    both_long _ _ (right_long c ∙ c.self.invariant.2 ∙ sym (left_long c)) ∙ left_long c
    ∙ sym (both_long inside.left.slots inside.right.slots c.self.invariant.2)
    ∙ ap (λ (v : Bounded). length v.profile.all) c.self.view_is

pub returns-clause-is_value : goal.returns-clause-is_value
returns-clause-is_value c = sides_have_all _ _ (right_long c ∙ c.self.invariant.2 ∙ sym (left_long c))

pub returns-clause-room : goal.returns-clause-room
returns-clause-room c =
    omega (
      arith,
      c.offer_column.ensures.room,
      c.offer_column-2.ensures.room,
      ap (λ (s : OneSided). s.room) c.refresh.ensures,
      ap (λ (s : OneSided). s.room) c.refresh-2.ensures,
      ap (λ (v : Bounded). v.profile.room) c.self.view_is,
    )
