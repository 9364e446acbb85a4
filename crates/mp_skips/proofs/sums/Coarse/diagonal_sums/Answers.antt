use Rattle.std.proofs.Common.{◌+◌, arith}
use Rattle.mp_skips.proofs.BlockLemmas.{diagonal_reached}
use Rattle.mp_skips.proofs.sums.Coarse.diagonal_sums.Goals as goal

pub overflow_add-column : goal.overflow_add-column
overflow_add-column c = omega (arith, c.requires.column, c.args.self.now.plan.few_columns)

pub returns-then-column-self-clause-apart : goal.returns-then-column-self-clause-apart
returns-then-column-self-clause-apart c = λ u need lt le.
    diagonal_reached c.args.self.now c.args.row (c.args.column + u) need c.requires.row
    (omega (arith, c.if-column-self.true, lt)) (omega (arith, le, c.fill_apart.ensures.sums.each u lt))
