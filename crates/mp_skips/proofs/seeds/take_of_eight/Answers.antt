use Rattle.mp_skips.proofs.BlockLemmas.{row_within, column_within}
use Rattle.mp_skips.proofs.seeds.take_of_eight.Goals as goal

pub diagonal_sums-requires-clause-row : goal.diagonal_sums-requires-clause-row
diagonal_sums-requires-clause-row c = row_within c.args.coarse.now c.args.row c.requires.row

pub diagonal_sums-requires-clause-column : goal.diagonal_sums-requires-clause-column
diagonal_sums-requires-clause-column c = column_within c.args.coarse.now c.args.column c.requires.column
