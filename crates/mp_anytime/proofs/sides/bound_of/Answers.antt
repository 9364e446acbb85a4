use Rattle.std.proofs.Common.{◌∙◌, rules, w32, FitsSigned, to_z, of_z}
use Rattle.std.proofs.lemmas.Int.{to_z-of_z}
use Rattle.mp_anytime.proofs.Quiet.{limit_is_bound}
use Rattle.mp_anytime.proofs.sides.bound_of.Goals as goal

pub returns : goal.returns
returns c = λ index.
    let limit = c.residue_limit.result in
    let fits : FitsSigned w32 limit = search rules in
    limit_is_bound c.args.rounding.now.m c.args.rounding.now.shift (record { dist = c.args.dist; index = index })
    (to_z w32 (of_z w32 limit)) (to_z-of_z w32 limit fits ∙ c.residue_limit.ensures)
