use Rattle.std.proofs.Common.{◌∙◌, ap, arith, length, sym}
use Rattle.mp_anytime.specs.Bounds.{columns_of}
use Rattle.mp_partial.specs.Profiled.{Profiled}
use Rattle.mp_anytime.proofs.SlotLemmas.{both_long, one_length, sides_have_all, sides_same}
use Rattle.mp_anytime.proofs.residue_found.ResidueFoundPart.take_over.Goals as goal

pub copy_from-requires : goal.copy_from-requires
copy_from-requires c =
    one_length c.self.inside.left c.self.inside.right c.other.inside.left c.other.inside.right
    c.self.invariant c.other.invariant
    (ap (λ (v : Profiled). length v.all) c.other.view_is ∙ sym c.requires.size
    ∙ sym (ap (λ (v : Profiled). length v.all) c.self.view_is))

pub copy_from-requires-2 : goal.copy_from-requires-2
copy_from-requires-2 c =
    c.other.invariant
    ∙ one_length c.self.inside.left c.self.inside.right
    c.other.inside.left c.other.inside.right
    c.self.invariant c.other.invariant
    (ap (λ (v : Profiled). length v.all) c.other.view_is ∙ sym c.requires.size
    ∙ sym (ap (λ (v : Profiled). length v.all) c.self.view_is))
    ∙ sym c.self.invariant

pub invariant_of-self : goal.invariant_of-self
invariant_of-self c = ap length c.copy_from-2.ensures ∙ c.other.invariant ∙ sym (ap length c.copy_from.ensures)

pub returns-clause-value : goal.returns-clause-value
returns-clause-value c =
    sides_same _ _ _ _ c.copy_from.ensures c.copy_from-2.ensures
    ∙ ap (λ (v : Profiled). columns_of v) c.other.view_is

pub returns-clause-size : goal.returns-clause-size
returns-clause-size c =
    both_long c.copy_from.new.self c.copy_from-2.new.self
    (ap length c.copy_from-2.ensures ∙ c.other.invariant ∙ sym (ap length c.copy_from.ensures))
    ∙ ap length c.copy_from.ensures
    ∙ sym (both_long c.other.inside.left c.other.inside.right c.other.invariant)
    ∙ ap (λ (v : Profiled). length v.all) c.other.view_is

pub returns-clause-is_value : goal.returns-clause-is_value
returns-clause-is_value c =
    sides_have_all c.copy_from.new.self c.copy_from-2.new.self
    (ap length c.copy_from-2.ensures ∙ c.other.invariant ∙ sym (ap length c.copy_from.ensures))
