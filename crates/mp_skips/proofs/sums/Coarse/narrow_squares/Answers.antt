use Rattle.std.proofs.Common.{arith}
use Rattle.mp_skips.specs.Levels.{square_at}
use Rattle.mp_skips.proofs.LevelLemmas.{no_squares, squares_more}
use Rattle.mp_skips.proofs.sums.Coarse.narrow_squares.Goals as goal

pub loop-t-init : goal.loop-t-init
loop-t-init c =
    let coarse = c.args.self.now in
    record {
      sum = no_squares (square_at coarse) c.args.row c.args.column;
      small = omega arith;
    }

pub loop-t-preserved : goal.loop-t-preserved
loop-t-preserved c =
    let coarse = c.args.self.now in
    record {
      sum = squares_more (square_at coarse) c.loop-t.t c.args.row c.args.column c.loop-t.sum c.narrow_square-sum.result
          c.loop-t.invariant.sum c.narrow_square-sum.ensures.square;
      small = omega (arith, c.loop-t.invariant.small, c.narrow_square-sum.ensures.small);
    }

pub overflow_add-row : goal.overflow_add-row
overflow_add-row c = omega (arith, c.requires.row)

pub overflow_add-column : goal.overflow_add-column
overflow_add-column c = omega (arith, c.requires.column)
