use Rattle.std.proofs.Common.{◌+◌, arith}
use Rattle.mp_scans.proofs.PairLemmas.{both_free}
use Rattle.mp_scans.proofs.pairs.are_free.Goals as goal

pub returns : goal.returns
returns c =
    let b = c.args.block.now in
    both_free b.grid (b.row + c.args.p) (b.column + c.args.c) _ _
    (b.row_marks.each c.args.p (omega (arith, c.requires.row, b.row_places)))
    (b.column_marks.each c.args.c (omega (arith, c.requires.column, b.column_places)))
