use Rattle.std.proofs.Common.{◌+◌, ◌≤◌, ap, arith, get_or, length, rules, subst, w32, FitsSigned}
use Rattle.std.specs.Prelude.{None}
use Rattle.std.proofs.lemmas.Int.{to_z-of_z}
use Rattle.mp_anytime.specs.Bounds.{Bounded, IsQuiet}
use Rattle.mp_anytime.proofs.Quiet.{below_by, quiet_from}
use Rattle.mp_anytime.proofs.found.Found.is_quiet.Goals as goal

pub returns-clause-rows : goal.returns-clause-rows
returns-clause-rows c = λ is k lt.
    let inside = c.self.inside in
    let row = c.args.row in
    let residue = c.args.residue in
    let most = c.greatest_from-rows.result in
    let fits : FitsSigned w32 most = search rules in
    let residue_fits : FitsSigned w32 residue = search rules in
    let within : row + 32 ≤ length inside.right.slots =
    omega (arith, c.requires.row, ap (λ (v : Bounded). length v.profile.right) c.self.view_is) in
    subst (λ (v : Bounded). IsQuiet v.m v.shift (get_or v.profile.right (row + k) None) residue) c.self.view_is
    (quiet_from inside.rounding.m inside.rounding.shift inside.right.slots inside.right.bounds row most residue
    c.self.invariant.0 within c.greatest_from-rows.ensures
    (below_by _ _ _ _ (to_z-of_z w32 most fits) (to_z-of_z w32 residue residue_fits) (c.are_below.ensures.one is)) k lt)

pub returns-clause-columns : goal.returns-clause-columns
returns-clause-columns c = λ is k lt.
    let inside = c.self.inside in
    let column = c.args.column in
    let residue = c.args.residue in
    let most = c.greatest_from-columns.result in
    let fits : FitsSigned w32 most = search rules in
    let residue_fits : FitsSigned w32 residue = search rules in
    let within : column + 32 ≤ length inside.left.slots =
    omega (arith, c.requires.column, ap (λ (v : Bounded). length v.profile.left) c.self.view_is) in
    subst (λ (v : Bounded). IsQuiet v.m v.shift (get_or v.profile.left (column + k) None) residue) c.self.view_is
    (quiet_from inside.rounding.m inside.rounding.shift inside.left.slots inside.left.bounds column most residue
    c.self.invariant.1 within c.greatest_from-columns.ensures
    (below_by _ _ _ _ (to_z-of_z w32 most fits) (to_z-of_z w32 residue residue_fits) (c.are_below.ensures.other is)) k
    lt)
