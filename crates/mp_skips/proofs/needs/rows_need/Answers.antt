use Rattle.std.proofs.Common.{◌+◌, arith}
use Rattle.mp_skips.proofs.NeedLemmas.{rows_need_next, row_marked}
use Rattle.mp_skips.proofs.needs.rows_need.Goals as goal

pub loop-k-init : goal.loop-k-init
loop-k-init g c = record { each = λ r lt. absurd (omega arith) }

pub row_need-requires : goal.row_need-requires
row_need-requires g c = record { free = row_marked c.args.coarse.now (c.args.row + c.loop-k.k) (omega arith) }

pub loop-k-preserved : goal.loop-k-preserved
loop-k-preserved g c =
    rows_need_next c.args.coarse.now (g.O.Offers.keeps_row c.args.into.now) c.args.first c.args.row c.loop-k.k
    c.loop-k.need c.row_need.result c.max-need.result c.loop-k.invariant c.row_need.ensures
    (omega (arith, c.max-need.ensures)) (omega (arith, c.max-need.ensures))
