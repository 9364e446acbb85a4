use Rattle.std.proofs.Common.{◌<◌, ap, arith, get_or, length, rules, subst, w32, FitsSigned}
use Rattle.std.specs.Prelude.{None}
use Rattle.std.proofs.lemmas.Int.{to_z-of_z}
use Rattle.mp_sums.specs.Residues.{item}
use Rattle.mp_anytime.specs.Bounds.{Bounded, IsQuiet}
use Rattle.mp_anytime.proofs.Quiet.{at_most_same, below_by, quiet_at}
use Rattle.mp_anytime.proofs.found.Found.may_give.Goals as goal

pub returns-clause-row : goal.returns-clause-row
returns-clause-row c = λ is.
    let inside = c.self.inside in
    let row = c.args.row in
    let residue = c.args.residue in
    let bound = c.bound_at.result in
    let fits : FitsSigned w32 bound = search rules in
    let residue_fits : FitsSigned w32 residue = search rules in
    let within : row < length inside.right.slots =
    omega (arith, c.requires.row, ap (λ (v : Bounded). length v.profile.right) c.self.view_is) in
    subst (λ (v : Bounded). IsQuiet v.m v.shift (get_or v.profile.right row None) residue) c.self.view_is
    (quiet_at inside.rounding.m inside.rounding.shift inside.right.slots inside.right.bounds row bound residue
    c.self.invariant.0 within (at_most_same bound (item inside.right.bounds row) c.bound_at.ensures)
    (below_by _ _ _ _ (to_z-of_z w32 bound fits) (to_z-of_z w32 residue residue_fits) (c.passes.ensures.row is)))

pub returns-clause-column : goal.returns-clause-column
returns-clause-column c = λ is.
    let inside = c.self.inside in
    let column = c.args.column in
    let residue = c.args.residue in
    let bound = c.bound_at-2.result in
    let fits : FitsSigned w32 bound = search rules in
    let residue_fits : FitsSigned w32 residue = search rules in
    let within : column < length inside.left.slots =
    omega (arith, c.requires.column, ap (λ (v : Bounded). length v.profile.left) c.self.view_is) in
    subst (λ (v : Bounded). IsQuiet v.m v.shift (get_or v.profile.left column None) residue) c.self.view_is
    (quiet_at inside.rounding.m inside.rounding.shift inside.left.slots inside.left.bounds column bound residue
    c.self.invariant.1 within (at_most_same bound (item inside.left.bounds column) c.bound_at-2.ensures)
    (below_by _ _ _ _ (to_z-of_z w32 bound fits) (to_z-of_z w32 residue residue_fits) (c.passes.ensures.column is)))
