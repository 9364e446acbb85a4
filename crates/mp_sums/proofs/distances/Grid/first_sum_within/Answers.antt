use Rattle.std.proofs.Common.{◌≡◌, subst, ◌+◌, arith}
use Rattle.mp_sums.specs.Grids.{IsFirstSumIn, row_numbers, column_numbers}
use Rattle.mp_sums.specs.SumLaws.{is_sum_of_none, is_sum_of_more, is_small, first_of_all}
use Rattle.mp_sums.proofs.distances.Grid.first_sum_within.Goals as goal

pub loop-k-init : goal.loop-k-init
loop-k-init c = record { sum = is_sum_of_none _ _ _ _; within = omega arith }

pub overflow_add-sum : goal.overflow_add-sum
overflow_add-sum c =
    omega (
      arith,
      is_small _ _ _ _ _ _ c.loop-k.invariant.sum,
      c.args.self.now.short,
      c.requires.count,
      c.square-sum.ensures.small,
    )

pub loop-k-preserved : goal.loop-k-preserved
loop-k-preserved c = record {
  sum = is_sum_of_more _ _ _ _ _ _ _ c.loop-k.invariant.sum c.square-sum.ensures.square c.square-sum.ensures.small;
  within = omega (arith, c.if-sum-limit.false);
}

pub returns-then-sum-limit-clause-none : goal.returns-then-sum-limit-clause-none
returns-then-sum-limit-clause-none c =
    let grid = c.args.self.now in
    let more = is_sum_of_more _ _ _ _ _ _ _ c.loop-k.invariant.sum c.square-sum.ensures.square
    c.square-sum.ensures.small in
    omega (
      arith,
      c.if-sum-limit.true,
      more.sum_is,
      first_of_all (c.loop-k.k + 1) c.args.count (row_numbers grid) c.args.row (column_numbers grid) c.args.column
          (omega arith),
    )

pub returns-clause-found : goal.returns-clause-found
returns-clause-found c =
    let all : c.loop-k.k ≡ c.args.count = omega (arith, c.loop-k-test.false, c.loop-k.auto.k-end) in
    subst (λ n. IsFirstSumIn c.args.self.now n c.args.row c.args.column c.loop-k.sum) all c.loop-k.invariant.sum
