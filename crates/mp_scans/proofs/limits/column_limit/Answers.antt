use Rattle.std.proofs.Common.{◌∙◌, sym, arith, rules}
use Rattle.mp_scans.proofs.LimitLemmas.{never_column}
use Rattle.mp_scans.proofs.limits.column_limit.Goals as goal

pub returns-else-block-c : goal.returns-else-block-c
returns-else-block-c g c =
    let b = c.args.block.now in
    never_column b (g.O.Offers.keeps_column c.args.into.now) c.args.first c.args.c _ (search rules)
    (sym (b.column_marks.each c.args.c (omega (arith, c.requires.column, b.column_places))) ∙ c.if-block-c.false)
