use Rattle.std.proofs.Common.{◌+◌, ap, get_or, rules, subst, w32, FitsSigned}
use Rattle.std.specs.Prelude.{None}
use Rattle.std.proofs.lemmas.Int.{to_z-of_z}
use Rattle.mp_partial.specs.Profiled.{Profiled}
use Rattle.mp_partial.specs.Values.{Column}
use Rattle.mp_anytime.specs.Bounds.{IsQuiet}
use Rattle.mp_anytime.proofs.Quiet.{below_by}
use Rattle.mp_anytime.proofs.residue_found.ResidueFound.may_give.Goals as goal

pub returns-clause-rows : goal.returns-clause-rows
returns-clause-rows c = λ is m k lt.
    let residue = c.args.residue in
    let most = c.greatest_from.result in
    let fits : FitsSigned w32 most = search rules in
    let residue_fits : FitsSigned w32 residue = search rules in
    subst (λ (v : Column). IsQuiet m 0 (get_or v (c.args.row + k) None) residue)
    (ap (λ (v : Profiled). v.right) c.self.view_is)
    (c.greatest_from.ensures m k residue lt
    (below_by _ _ _ _ (to_z-of_z w32 most fits) (to_z-of_z w32 residue residue_fits) (c.passes.ensures.row is)))

pub returns-clause-columns : goal.returns-clause-columns
returns-clause-columns c = λ is m k lt.
    let residue = c.args.residue in
    let most = c.greatest_from-2.result in
    let fits : FitsSigned w32 most = search rules in
    let residue_fits : FitsSigned w32 residue = search rules in
    subst (λ (v : Column). IsQuiet m 0 (get_or v (c.args.column + k) None) residue)
    (ap (λ (v : Profiled). v.left) c.self.view_is)
    (c.greatest_from-2.ensures m k residue lt
    (below_by _ _ _ _ (to_z-of_z w32 most fits) (to_z-of_z w32 residue residue_fits) (c.passes.ensures.column is)))
