use Rattle.std.proofs.Common.{◌∙◌, ap, length, subst, sym}
use Rattle.mp_partial.specs.Values.{HasColumns}
use Rattle.mp_anytime.specs.Bounds.{columns_of}
use Rattle.mp_partial.specs.Profiled.{Profiled}
use Rattle.mp_anytime.proofs.SlotLemmas.{both_long, sides_have_all}
use Rattle.mp_anytime.proofs.residue_found.ResidueFoundPart.size.Goals as goal

pub returns-clause-size : goal.returns-clause-size
returns-clause-size c =
    c.len.ensures ∙ sym (both_long c.self.inside.left c.self.inside.right c.self.invariant)
    ∙ ap (λ (v : Profiled). length v.all) c.self.view_is

pub returns-clause-is_value : goal.returns-clause-is_value
returns-clause-is_value c =
    let inside = c.self.inside in
    subst (λ n. HasColumns 3 n (columns_of c.args.self.now))
    (sym (c.len.ensures ∙ sym (both_long inside.left inside.right c.self.invariant)
    ∙ ap (λ (v : Profiled). length v.all) c.self.view_is))
    (subst (λ (v : Profiled). HasColumns 3 (length v.all) (columns_of v)) c.self.view_is
    (sides_have_all inside.left inside.right c.self.invariant))
