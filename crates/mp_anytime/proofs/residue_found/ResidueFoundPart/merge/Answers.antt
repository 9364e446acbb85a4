use Rattle.std.proofs.Common.{◌≡◌, ◌∙◌, [], ◌∷◌, ap, arith, length, sym}
use Rattle.mp_partial.specs.Values.{merged_column, merged_columns}
use Rattle.mp_anytime.specs.Bounds.{columns_of}
use Rattle.mp_partial.specs.Profiled.{Profiled}
use Rattle.mp_anytime.proofs.SlotLemmas.{both_long, merged_long, one_length, sides_have_all, sides_merged}
use Rattle.mp_anytime.proofs.residue_found.ResidueFoundPart.merge.Goals as goal

pub merge-requires : goal.merge-requires
merge-requires c =
    one_length c.self.inside.left c.self.inside.right c.other.inside.left c.other.inside.right
    c.self.invariant c.other.invariant
    (ap (λ (v : Profiled). length v.all) c.other.view_is ∙ c.requires
    ∙ sym (ap (λ (v : Profiled). length v.all) c.self.view_is))

pub merge-requires-2 : goal.merge-requires-2
merge-requires-2 c =
    c.other.invariant
    ∙ one_length c.self.inside.left c.self.inside.right
    c.other.inside.left c.other.inside.right
    c.self.invariant c.other.invariant
    (ap (λ (v : Profiled). length v.all) c.other.view_is ∙ c.requires
    ∙ sym (ap (λ (v : Profiled). length v.all) c.self.view_is))
    ∙ sym c.self.invariant

lengths : (c : goal.After-merge-2)
    → (length c.merge.new.self ≡ length c.self.inside.left) × (length c.merge-2.new.self ≡ length c.merge.new.self)
lengths c =
    let inside = c.self.inside in
    let other = c.other.inside in
    let left : length other.left ≡ length inside.left =
    one_length inside.left inside.right other.left other.right c.self.invariant c.other.invariant
    (ap (λ (v : Profiled). length v.all) c.other.view_is ∙ c.requires
    ∙ sym (ap (λ (v : Profiled). length v.all) c.self.view_is)) in
    let left_long = merged_long inside.left c.merge.new.self other.left left c.merge.ensures in
    let right_long = merged_long inside.right c.merge-2.new.self other.right
    (c.other.invariant ∙ left ∙ sym c.self.invariant) c.merge-2.ensures in
    (left_long, right_long ∙ c.self.invariant ∙ sym left_long)

pub invariant_of-self : goal.invariant_of-self
invariant_of-self c = (lengths c).1

pub returns-clause-value : goal.returns-clause-value
returns-clause-value c =
    let inside = c.self.inside in
    let other = c.other.inside in
    sides_merged inside.left inside.right _ _ other.left other.right c.merge.ensures
    c.merge-2.ensures
    ∙ ap (λ (v : Profiled). merged_columns (columns_of v)
    (merged_column other.left other.right ∷ other.left ∷ other.right ∷ [])) c.self.view_is
    ∙ ap
    (λ (v : Profiled). merged_columns (columns_of c.args.self.now) (columns_of v)) c.other.view_is

pub returns-clause-size : goal.returns-clause-size
returns-clause-size c =
    both_long c.merge.new.self c.merge-2.new.self
    (lengths c).1
    ∙ (lengths c).0 ∙ sym (both_long c.self.inside.left c.self.inside.right c.self.invariant)
    ∙ ap (λ (v : Profiled). length v.all) c.self.view_is

pub returns-clause-is_value : goal.returns-clause-is_value
returns-clause-is_value c =
    sides_have_all c.merge.new.self c.merge-2.new.self
    (lengths c).1
