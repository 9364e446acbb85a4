use Rattle.std.proofs.Common.{◌∙◌, ap, length, sym}
use Rattle.std.specs.Prelude.{Option, None}
use Rattle.std.proofs.lemmas.List.{length-replicate}
use Rattle.mp_nums.specs.declared.nearest.Near.{Near}
use Rattle.mp_anytime.proofs.SlotLemmas.{both_long, sides_cleared, sides_have}
use Rattle.mp_anytime.proofs.residue_found.ResidueFoundPart.unit.Goals as goal

pub returns-clause-value : goal.returns-clause-value
returns-clause-value c =
    sides_cleared c.args.size _ _ c.in_ok-none_found.ensures c.in_ok-none_found-2.ensures

pub returns-clause-size : goal.returns-clause-size
returns-clause-size c =
    both_long _ _ (ap length (c.in_ok-none_found-2.ensures ∙ sym c.in_ok-none_found.ensures))
    ∙ ap length c.in_ok-none_found.ensures ∙ length-replicate {A = Option Near} c.args.size None

pub returns-clause-is_value : goal.returns-clause-is_value
returns-clause-is_value c =
    sides_have c.args.size _ _
    (ap length c.in_ok-none_found.ensures ∙ length-replicate {A = Option Near} c.args.size None)
    (ap length c.in_ok-none_found-2.ensures ∙ length-replicate {A = Option Near} c.args.size None)
