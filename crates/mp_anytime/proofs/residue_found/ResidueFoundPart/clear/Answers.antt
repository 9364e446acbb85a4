use Rattle.std.proofs.Common.{◌≡◌, ◌∙◌, ap, arith, length, sym}
use Rattle.std.specs.Prelude.{Option, None}
use Rattle.std.proofs.lemmas.List.{length-replicate}
use Rattle.mp_nums.specs.declared.nearest.Near.{Near}
use Rattle.mp_partial.specs.Values.{empty_column, empty_columns}
use Rattle.mp_partial.specs.Profiled.{Profiled}
use Rattle.mp_anytime.proofs.SlotLemmas.{both_long, sides_cleared, sides_have_all}
use Rattle.mp_anytime.proofs.residue_found.ResidueFoundPart.clear.Goals as goal

pub invariant_of-self : goal.invariant_of-self
invariant_of-self c = ap length (c.clear-2.ensures ∙ ap empty_column c.self.invariant ∙ sym c.clear.ensures)

pub returns-clause-value : goal.returns-clause-value
returns-clause-value c =
    let inside = c.self.inside in
    let n = length inside.left in
    let same : n ≡ length c.args.self.now.all =
    sym (both_long inside.left inside.right c.self.invariant)
    ∙ ap (λ (v : Profiled). length v.all) c.self.view_is in
    sides_cleared n _ _ c.clear.ensures (c.clear-2.ensures ∙ ap empty_column c.self.invariant)
    ∙ ap (empty_columns 3) same

pub returns-clause-size : goal.returns-clause-size
returns-clause-size c =
    let inside = c.self.inside in
    both_long c.clear.new.self c.clear-2.new.self
    (ap length (c.clear-2.ensures ∙ ap empty_column c.self.invariant ∙ sym c.clear.ensures))
    ∙ ap length c.clear.ensures ∙ length-replicate {A = Option Near} (length inside.left) None
    ∙ sym (both_long inside.left inside.right c.self.invariant)
    ∙ ap (λ (v : Profiled). length v.all) c.self.view_is

pub returns-clause-is_value : goal.returns-clause-is_value
returns-clause-is_value c =
    sides_have_all c.clear.new.self c.clear-2.new.self
    (ap length (c.clear-2.ensures ∙ ap empty_column c.self.invariant ∙ sym c.clear.ensures))
