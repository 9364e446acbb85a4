use Rattle.std.proofs.Common.{◌∙◌, sym}
use Rattle.mp_skips.proofs.NeedLemmas.{column_told, no_column}
use Rattle.mp_skips.proofs.needs.column_need.Goals as goal

pub returns-then-free : goal.returns-then-free
returns-then-free g c =
    column_told c.args.coarse.now (g.O.Offers.keeps_column c.args.into.now) c.args.first c.args.column c.need_of.result
    c.column_limit.result c.need_of.ensures c.column_limit.ensures

pub returns-else-free : goal.returns-else-free
returns-else-free g c =
    no_column c.args.coarse.now (g.O.Offers.keeps_column c.args.into.now) c.args.first c.args.column 0
    (λ lt. sym (c.requires.free lt) ∙ c.if-free.false)
