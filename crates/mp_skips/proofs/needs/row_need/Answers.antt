use Rattle.std.proofs.Common.{◌∙◌, sym}
use Rattle.mp_skips.proofs.NeedLemmas.{row_told, no_row}
use Rattle.mp_skips.proofs.needs.row_need.Goals as goal

pub returns-then-free : goal.returns-then-free
returns-then-free g c =
    row_told c.args.coarse.now (g.O.Offers.keeps_row c.args.into.now) c.args.first c.args.row c.need_of.result
    c.row_limit.result c.need_of.ensures c.row_limit.ensures

pub returns-else-free : goal.returns-else-free
returns-else-free g c =
    no_row c.args.coarse.now (g.O.Offers.keeps_row c.args.into.now) c.args.first c.args.row
    0 (sym c.requires.free ∙ c.if-free.false)
