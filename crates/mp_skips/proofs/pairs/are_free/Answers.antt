use Rattle.mp_skips.proofs.NeedLemmas.{both_free, row_marked, column_marked}
use Rattle.mp_skips.proofs.pairs.are_free.Goals as goal

pub returns : goal.returns
returns c =
    both_free c.args.coarse.now.plan.grid c.args.row c.args.column _ _
    (row_marked c.args.coarse.now c.args.row c.requires.row)
    (column_marked c.args.coarse.now c.args.column c.requires.column)
