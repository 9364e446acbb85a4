use Rattle.std.proofs.Common.{◌∙◌, arith, rules, w32, FitsSigned, to_z, of_z}
use Rattle.std.proofs.lemmas.Int.{to_z-of_z}
use Rattle.mp_anytime.proofs.Quiet.{quiet_pair}
use Rattle.mp_anytime.proofs.found.Found.take_pair.Goals as goal

pub returns-else-may_give-clause-taken : goal.returns-else-may_give-clause-taken
returns-else-may_give-clause-taken c =
    let residue = c.args.residue in
    let fits : FitsSigned w32 residue = search rules in
    quiet_pair c.args.rounded.now.plan c.args.row c.args.column (to_z w32 (of_z w32 residue)) c.args.self.now
    c.requires.for_these c.requires.order
    (omega (arith, c.requires.within, c.args.rounded.now.lists.marks.places))
    (to_z-of_z w32 residue fits ∙ c.requires.residue)
    (c.may_give.ensures.row c.if-may_give.false) (c.may_give.ensures.column c.if-may_give.false)
    c.may_give.ensures.lesser
