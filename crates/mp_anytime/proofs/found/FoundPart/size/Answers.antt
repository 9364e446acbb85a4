use Rattle.std.proofs.Common.{◌∙◌, ap, length, subst, sym}
use Rattle.mp_partial.specs.Values.{HasColumns}
use Rattle.mp_anytime.specs.Bounds.{Bounded, columns_of}
use Rattle.mp_anytime.proofs.SlotLemmas.{both_long, sides_have_all}
use Rattle.mp_anytime.proofs.found.FoundPart.size.Goals as goal

pub returns-clause-size : goal.returns-clause-size
returns-clause-size c =
    c.len.ensures ∙ sym (both_long c.self.inside.left.slots c.self.inside.right.slots c.self.invariant.2)
    ∙ ap (λ (v : Bounded). length v.profile.all) c.self.view_is

pub returns-clause-is_value : goal.returns-clause-is_value
returns-clause-is_value c =
    let inside = c.self.inside in
    subst (λ n. HasColumns 3 n (columns_of c.args.self.now.profile))
    (sym (c.len.ensures ∙ sym (both_long inside.left.slots inside.right.slots c.self.invariant.2)
    ∙ ap (λ (v : Bounded). length v.profile.all) c.self.view_is))
    (subst (λ (v : Bounded). HasColumns 3 (length v.profile.all) (columns_of v.profile)) c.self.view_is
    (sides_have_all inside.left.slots inside.right.slots c.self.invariant.2))
