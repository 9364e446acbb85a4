use Rattle.std.proofs.Common.{◌∙◌, ap, sym, rules, w32, FitsSigned}
use Rattle.std.proofs.lemmas.Int.{to_z-of_z}
use Rattle.mp_sums.specs.Residues.{residue_up_to}
use Rattle.mp_sums.proofs.ThresholdLemmas.{not_widened}
use Rattle.mp_sums.proofs.roundings.Rounding.limit_within.Goals as goal

pub returns-then-self-eq0 : goal.returns-then-self-eq0
returns-then-self-eq0 c =
    let fits : FitsSigned w32 c.residue_up_to.result = search rules in
    to_z-of_z w32 c.residue_up_to.result fits ∙ c.residue_up_to.ensures
    ∙ ap residue_up_to (sym (not_widened c.args.self.now.m c.args.self.now.shift c.args.dist c.if-self-eq0.true))
