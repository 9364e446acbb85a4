use Rattle.std.proofs.Common.{◌*◌, arith}
use Rattle.mp_skips.proofs.BlockLemmas.{row_within, column_within}
use Rattle.mp_skips.proofs.PairLemmas.{strip_row_need, strip_column_need}
use Rattle.mp_skips.proofs.scans.take_groups.Goals as goal

pub square_sum-sum-requires-clause-row : goal.square_sum-sum-requires-clause-row
square_sum-sum-requires-clause-row g c =
    row_within c.args.coarse.now c.args.rows.now.row (omega (arith, c.requires.are_rows, c.requires.some))

pub square_sum-sum-requires-clause-group : goal.square_sum-sum-requires-clause-group
square_sum-sum-requires-clause-group g c = column_within c.args.coarse.now (8 * c.args.group) c.requires.column

pub take_block-requires-clause-rows_need : goal.take_block-requires-clause-rows_need
take_block-requires-clause-rows_need g c =
    strip_row_need c.args.coarse.now _ _ _ _ _ _ _ _ _ c.requires.needs (omega (arith, c.max-need.ensures))

pub take_block-requires-clause-columns_need : goal.take_block-requires-clause-columns_need
take_block-requires-clause-columns_need g c = λ q few.
    strip_column_need c.args.coarse.now _ _ _ _ _ _ _ _ c.args.group _ q c.requires.needs c.requires.base
    c.requires.places (omega (arith, c.max-need.ensures)) few
