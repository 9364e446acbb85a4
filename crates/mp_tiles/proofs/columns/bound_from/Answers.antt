use Rattle.std.proofs.Common.{◌∙◌, rules, w32, FitsSigned}
use Rattle.std.proofs.lemmas.Int.{to_z-of_z}
use Rattle.mp_tiles.proofs.ColumnLemmas.{within_tells}
use Rattle.mp_tiles.proofs.columns.bound_from.Goals as goal

pub returns-in_default : goal.returns-in_default
returns-in_default c =
    let fits : FitsSigned w32 c.args.within = search rules in
    within_tells c.args.rounding.now.m c.args.rounding.now.shift c.args.first c.args.slot _
    (to_z-of_z w32 c.args.within fits ∙ c.requires)

pub returns-in_default-2 : goal.returns-in_default-2
returns-in_default-2 c =
    let fits : FitsSigned w32 c.args.within = search rules in
    within_tells c.args.rounding.now.m c.args.rounding.now.shift c.args.first c.args.slot _
    (to_z-of_z w32 c.args.within fits ∙ c.requires)
