use Rattle.std.proofs.Common.{◌∙◌, sym, arith, rules}
use Rattle.mp_scans.proofs.LimitLemmas.{never_row}
use Rattle.mp_scans.proofs.limits.row_limit.Goals as goal

pub returns-else-block-p : goal.returns-else-block-p
returns-else-block-p g c =
    let b = c.args.block.now in
    never_row b (g.O.Offers.keeps_row c.args.into.now) c.args.p c.args.p _ (search rules)
    (sym (b.row_marks.each c.args.p (omega (arith, c.requires, b.row_places))) ∙ c.if-block-p.false)
