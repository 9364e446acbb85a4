use Rattle.std.proofs.Common.{arith}
use Rattle.mp_skips.specs.Levels.{square_at}
use Rattle.mp_skips.proofs.LevelLemmas.{squares_on, first_square, squares_small}
use Rattle.mp_skips.proofs.sums.Coarse.next_sum.Goals as goal

pub overflow_add-row : goal.overflow_add-row
overflow_add-row c = omega (arith, c.requires.row)

pub overflow_add-column : goal.overflow_add-column
overflow_add-column c = omega (arith, c.requires.column)

pub overflow_add-result : goal.overflow_add-result
overflow_add-result c =
    let coarse = c.args.self.now in
    omega (
      arith,
      c.requires.sum,
      squares_small coarse coarse.plan.grid.m c.args.row c.args.column,
      coarse.plan.grid.short,
      c.square-enters.ensures.small,
    )

pub overflow_sub-result : goal.overflow_sub-result
overflow_sub-result c =
    let coarse = c.args.self.now in
    omega (
      arith,
      c.requires.sum,
      c.square-leaves.ensures.square,
      first_square (square_at coarse) coarse.plan.grid.m c.args.row c.args.column coarse.plan.some_samples,
    )

pub returns : goal.returns
returns c =
    let coarse = c.args.self.now in
    omega (
      arith,
      c.requires.sum,
      c.square-enters.ensures.square,
      c.square-leaves.ensures.square,
      squares_on (square_at coarse) coarse.plan.grid.m c.args.row c.args.column,
      first_square (square_at coarse) coarse.plan.grid.m c.args.row c.args.column coarse.plan.some_samples,
    )
