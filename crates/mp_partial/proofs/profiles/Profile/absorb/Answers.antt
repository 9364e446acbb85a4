use Rattle.std.proofs.Common.{◌≡◌, ℕ, length, ap, sym, ◌∙◌, subst}
use Rattle.mp_partial.specs.Values.{Column, merged_column}
use Rattle.mp_partial.specs.Profiled.{Profiled, IsProfile}
use Rattle.mp_partial.specs.Patching.{placed}
use Rattle.mp_partial.specs.PatchingLaws.{length_placed}
use Rattle.mp_partial.proofs.Merging.{absorbed_has, covered_left, covered_right, merged_has, merged_twice}
use Rattle.mp_partial.proofs.Merging.{profile_absorbed}
use Rattle.mp_partial.proofs.profiles.Profile.absorb.Goals as goal

long : (size first n : ℕ) (slots : Column) → size ≡ n → length (placed size first slots) ≡ n
long size first n slots e = length_placed size first slots ∙ e

pub merge_side-requires-clause-covered : goal.merge_side-requires-clause-covered
merge_side-requires-clause-covered c = covered_right _ _ _ c.self.invariant

pub merge_side-requires-2-clause-both : goal.merge_side-requires-2-clause-both
merge_side-requires-2-clause-both c =
    ap length c.merge_side.ensures.both ∙ merged_has _ _ (long _ _ _ _ c.self.invariant.right_is)
    ∙ sym c.self.invariant.left_is

pub merge_side-requires-2-clause-covered : goal.merge_side-requires-2-clause-covered
merge_side-requires-2-clause-covered c =
    covered_left _ _ _ _ _ c.self.invariant (long _ _ _ _ c.self.invariant.right_is) c.merge_side.ensures.both

whole : (c : goal.After-merge_side-2)
    → IsProfile c.merge_side-2.new.both.items c.merge_side-2.new.side.items c.merge_side.new.side.items
whole c =
    profile_absorbed _ _ _ _ _ _ _ _ c.self.invariant (long _ _ _ _ c.self.invariant.right_is)
    (long _ _ _ _ c.self.invariant.left_is)
    (merged_twice _ _ _ _ _ c.merge_side.ensures.both c.merge_side-2.ensures.both) c.merge_side-2.ensures.side
    c.merge_side.ensures.side

pub invariant_of-self : goal.invariant_of-self
invariant_of-self c = whole c

pub returns-clause-lesser : goal.returns-clause-lesser
returns-clause-lesser c = (whole c).lesser

pub returns-clause-places : goal.returns-clause-places
returns-clause-places c =
    absorbed_has _ _ _ _ (long _ _ _ _ c.self.invariant.right_is) (long _ _ _ _ c.self.invariant.left_is)
    (merged_twice _ _ _ _ _ c.merge_side.ensures.both c.merge_side-2.ensures.both)
    ∙ ap (λ (p : Profiled). length p.all) c.self.view_is

pub returns-clause-all : goal.returns-clause-all
returns-clause-all c =
    subst (λ (p : Profiled). c.merge_side-2.new.both.items ≡ merged_column p.all (merged_column
    (placed (length p.all) c.args.patch.now.first_row c.args.patch.now.rows)
    (placed (length p.all) c.args.patch.now.first_column c.args.patch.now.columns))) c.self.view_is
    (rw (← c.first_row-row.ensures, ← c.rows-rows.ensures, ← c.first_column-column.ensures, ← c.columns-columns.ensures)
    (subst (λ n. c.merge_side-2.new.both.items ≡ merged_column c.self.inside.all.items (merged_column
    (placed n c.first_row-row.result c.rows-rows.result.now)
    (placed (length c.self.inside.all.items) c.first_column-column.result c.columns-columns.result.now)))
    c.self.invariant.right_is
    (subst (λ n. c.merge_side-2.new.both.items ≡ merged_column c.self.inside.all.items (merged_column
    (placed (length c.self.inside.right.items) c.first_row-row.result c.rows-rows.result.now)
    (placed n c.first_column-column.result c.columns-columns.result.now)))
    c.self.invariant.left_is (merged_twice _ _ _ _ _ c.merge_side.ensures.both c.merge_side-2.ensures.both))))
