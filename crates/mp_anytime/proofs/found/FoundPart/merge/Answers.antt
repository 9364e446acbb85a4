use Rattle.std.proofs.Common.{◌≡◌, ◌∙◌, [], ◌∷◌, ap, arith, length, subst, sym}
use Rattle.mp_partial.specs.Values.{Column, merged_column, merged_columns}
use Rattle.mp_anytime.specs.Bounds.{AreBounds, Bounded, columns_of}
use Rattle.mp_anytime.proofs.Quiet.{merged_bounds}
use Rattle.mp_anytime.proofs.SlotLemmas.{both_long, one_length, sides_have_all, sides_merged}
use Rattle.mp_anytime.proofs.found.FoundPart.merge.Goals as goal

pub merge-requires : goal.merge-requires
merge-requires c =
    one_length c.self.inside.left.slots c.self.inside.right.slots c.other.inside.left.slots c.other.inside.right.slots
    c.self.invariant.2 c.other.invariant.2
    (ap (λ (v : Bounded). length v.profile.all) c.other.view_is ∙ c.requires
    ∙ sym (ap (λ (v : Bounded). length v.profile.all) c.self.view_is))

pub merge-requires-2 : goal.merge-requires-2
merge-requires-2 c =
    c.other.invariant.2
    ∙ one_length c.self.inside.left.slots c.self.inside.right.slots
    c.other.inside.left.slots c.other.inside.right.slots
    c.self.invariant.2 c.other.invariant.2
    (ap (λ (v : Bounded). length v.profile.all) c.other.view_is ∙ c.requires
    ∙ sym (ap (λ (v : Bounded). length v.profile.all) c.self.view_is))
    ∙ sym c.self.invariant.2

pub invariant_of-self : goal.invariant_of-self
invariant_of-self c =
    let inside = c.self.inside in
    let other = c.other.inside in
    let m = inside.rounding.m in
    let shift = inside.rounding.shift in
    let left : length other.left.slots ≡ length inside.left.slots =
    one_length inside.left.slots inside.right.slots other.left.slots other.right.slots c.self.invariant.2
    c.other.invariant.2
    (ap (λ (v : Bounded). length v.profile.all) c.other.view_is ∙ c.requires
    ∙ sym (ap (λ (v : Bounded). length v.profile.all) c.self.view_is)) in
    let right : length other.right.slots ≡ length inside.right.slots =
    c.other.invariant.2 ∙ left ∙ sym c.self.invariant.2 in (
      subst (λ (v : Column). AreBounds m shift v c.merge-2.new.self.bounds) (sym c.merge-2.ensures.slots)
          (subst (AreBounds m shift _) (sym c.merge-2.ensures.bounds)
          (merged_bounds m shift inside.right.slots other.right.slots inside.right.bounds right c.self.invariant.0)),
      subst (λ (v : Column). AreBounds m shift v c.merge.new.self.bounds) (sym c.merge.ensures.slots)
          (subst (AreBounds m shift _) (sym c.merge.ensures.bounds)
          (merged_bounds m shift inside.left.slots other.left.slots inside.left.bounds left c.self.invariant.1)),
      c.merge-2.ensures.places ∙ c.self.invariant.2 ∙ sym c.merge.ensures.places,
    )

pub returns-clause-value : goal.returns-clause-value
returns-clause-value c =
    let inside = c.self.inside in
    let other = c.other.inside in
    sides_merged inside.left.slots inside.right.slots _ _ other.left.slots other.right.slots c.merge.ensures.slots
    c.merge-2.ensures.slots
    ∙ ap (λ (v : Bounded). merged_columns (columns_of v.profile)
    (merged_column other.left.slots other.right.slots ∷ other.left.slots ∷ other.right.slots ∷ [])) c.self.view_is
    ∙ ap
    (λ (v : Bounded). merged_columns (columns_of c.args.self.now.profile) (columns_of v.profile)) c.other.view_is

pub returns-clause-size : goal.returns-clause-size
returns-clause-size c =
    both_long c.merge.new.self.slots c.merge-2.new.self.slots
    (c.merge-2.ensures.places ∙ c.self.invariant.2 ∙ sym c.merge.ensures.places)
    ∙ c.merge.ensures.places ∙ sym (both_long c.self.inside.left.slots c.self.inside.right.slots c.self.invariant.2)
    ∙ ap (λ (v : Bounded). length v.profile.all) c.self.view_is

pub returns-clause-is_value : goal.returns-clause-is_value
returns-clause-is_value c =
    sides_have_all c.merge.new.self.slots c.merge-2.new.self.slots
    (c.merge-2.ensures.places ∙ c.self.invariant.2 ∙ sym c.merge.ensures.places)

pub returns-clause-room : goal.returns-clause-room
returns-clause-room c =
    omega (
      arith,
      c.merge.ensures.room,
      c.merge-2.ensures.room,
      ap (λ (v : Bounded). v.profile.room) c.self.view_is,
    )
