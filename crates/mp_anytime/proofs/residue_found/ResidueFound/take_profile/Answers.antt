use Rattle.std.proofs.Common.{◌≡◌, ◌∙◌, ap, arith, length, sym}
use Rattle.std.proofs.lemmas.List.{length-map}
use Rattle.mp_partial.specs.Profiled.{Profiled}
use Rattle.mp_partial.specs.Values.{Column, merged_column, merged_columns}
use Rattle.mp_anytime.specs.Bounds.{both_sides, columns_of, has_residue, numbered}
use Rattle.mp_anytime.specs.Bounds.{numbered_slots}
use Rattle.mp_anytime.proofs.Entries.{kept_is}
use Rattle.mp_anytime.proofs.SlotLemmas.{both_long, merged_long, sides_have_all, sides_merged}
use Rattle.mp_anytime.proofs.residue_found.ResidueFound.take_profile.Goals as goal

pub offer_column-requires : goal.offer_column-requires
offer_column-requires c =
    ap length c.right.ensures ∙ sym c.len-windows.ensures.right ∙ c.len-windows.ensures.all ∙ c.requires.places
    ∙ sym (ap (λ (v : Profiled). length v.all) c.self.view_is)
    ∙ both_long c.self.inside.left c.self.inside.right c.self.invariant ∙ sym c.self.invariant

pub offer_column-requires-2 : goal.offer_column-requires-2
offer_column-requires-2 c =
    ap length c.left.ensures ∙ sym c.len-windows.ensures.left ∙ c.len-windows.ensures.all ∙ c.requires.places
    ∙ sym (ap (λ (v : Profiled). length v.all) c.self.view_is)
    ∙ both_long c.self.inside.left c.self.inside.right c.self.invariant

left_is : (c : goal.After-refresh-2)
    → c.refresh-2.new.self ≡ merged_column c.self.inside.left (numbered_slots has_residue c.args.profile.now.left)
left_is c =
    c.refresh-2.ensures ∙ c.offer_column-2.ensures
    ∙ ap (λ (v : Column). merged_column c.self.inside.left (numbered_slots has_residue v)) c.left.ensures

right_is : (c : goal.After-refresh-2)
    → c.refresh.new.self ≡ merged_column c.self.inside.right (numbered_slots has_residue c.args.profile.now.right)
right_is c =
    c.refresh.ensures ∙ c.offer_column.ensures
    ∙ ap (λ (v : Column). merged_column c.self.inside.right (numbered_slots has_residue v)) c.right.ensures

left_long : (c : goal.After-refresh-2) → length c.refresh-2.new.self ≡ length c.self.inside.left
left_long c =
    merged_long c.self.inside.left _ (numbered_slots has_residue c.args.profile.now.left)
    (length-map c.args.profile.now.left (numbered has_residue) ∙ sym c.len-windows.ensures.left
    ∙ c.len-windows.ensures.all
    ∙ c.requires.places ∙ sym (ap (λ (v : Profiled). length v.all) c.self.view_is)
    ∙ both_long c.self.inside.left c.self.inside.right c.self.invariant)
    (left_is c)

right_long : (c : goal.After-refresh-2) → length c.refresh.new.self ≡ length c.self.inside.right
right_long c =
    merged_long c.self.inside.right _ (numbered_slots has_residue c.args.profile.now.right)
    (length-map c.args.profile.now.right (numbered has_residue) ∙ sym c.len-windows.ensures.right
    ∙ c.len-windows.ensures.all
    ∙ c.requires.places ∙ sym (ap (λ (v : Profiled). length v.all) c.self.view_is)
    ∙ both_long c.self.inside.left c.self.inside.right c.self.invariant ∙ sym c.self.invariant)
    (right_is c)

pub invariant_of-self : goal.invariant_of-self
invariant_of-self c = right_long c ∙ c.self.invariant ∙ sym (left_long c)

pub returns-clause-value : goal.returns-clause-value
returns-clause-value c =
    let inside = c.self.inside in
    let p = c.args.profile.now in
    sides_merged inside.left inside.right _ _ (numbered_slots has_residue p.left) (numbered_slots has_residue p.right)
    (left_is c)
    (right_is c)
    ∙ ap (λ (v : Profiled). merged_columns (columns_of v)
    (columns_of (both_sides (numbered_slots has_residue p.left) (numbered_slots has_residue p.right) 0))) c.self.view_is
    ∙ ap (λ (v : Profiled). merged_columns (columns_of c.args.self.now) (columns_of v))
    (sym (kept_is has_residue p (sym c.len-windows.ensures.left ∙ c.len-windows.ensures.all)
    (sym c.len-windows.ensures.right ∙ c.len-windows.ensures.all)))

pub returns-clause-places : goal.returns-clause-places
returns-clause-places c =
    let inside = c.self.inside in
    both_long _ _ (right_long c ∙ c.self.invariant ∙ sym (left_long c)) ∙ left_long c
    ∙ sym (both_long inside.left inside.right c.self.invariant)
    ∙ ap (λ (v : Profiled). length v.all) c.self.view_is

pub returns-clause-is_value : goal.returns-clause-is_value
returns-clause-is_value c = sides_have_all _ _ (right_long c ∙ c.self.invariant ∙ sym (left_long c))
