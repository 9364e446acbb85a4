use Rattle.mp_sums.proofs.FillLemmas.{square_there}
use Rattle.mp_sums.proofs.distances.Grid.free_square.Goals as goal

pub returns-clause-square : goal.returns-clause-square
returns-clause-square c =
    square_there c.args.self.now.rows.now c.args.self.now.columns.now c.args.row c.args.column _ _ _
    c.index-self-row.result c.index-self-column.result c.requires.row c.requires.column c.number_in.ensures
    c.number_in-2.ensures c.square.ensures.square
