use Rattle.std.proofs.Common.{◌+◌, ◌-◌, ◌≤◌, subst, arith}
use Rattle.mp_skips.proofs.LevelLemmas.{part_more, part_tells, squares_small, none_yet, whole_more}
use Rattle.mp_skips.proofs.sums.Coarse.core_within.Goals as goal

pub loop-place-init : goal.loop-place-init
loop-place-init c = record {
  after = omega arith;
  before = c.requires.behind;
  sum = none_yet c.args.self.now c.args.behind (c.args.row + c.args.behind) (c.args.column + c.args.behind);
}

pub overflow_add-sum : goal.overflow_add-sum
overflow_add-sum c =
    omega (
      arith,
      c.loop-place.invariant.sum,
      c.loop-place.invariant.after,
      squares_small c.args.self.now (c.loop-place.place - c.args.behind) (c.args.row + c.args.behind)
          (c.args.column + c.args.behind),
      c.part_squares-sum.ensures.small,
      c.loop-place-test.true,
      c.args.self.now.plan.grid.short,
    )

pub returns-then-sum-most-clause-none : goal.returns-then-sum-most-clause-none
returns-then-sum-most-clause-none c =
    let before = c.loop-place.invariant in
    part_tells c.args.self.now (c.args.row + c.args.behind) (c.args.column + c.args.behind)
    (c.loop-place.place + 32 - c.args.behind) (c.args.self.now.plan.grid.m - c.args.behind)
    (c.loop-place.sum + c.part_squares-sum.result) c.args.most
    (omega (arith, c.loop-place-test.true))
    (part_more c.args.self.now c.args.row c.args.column c.args.behind c.loop-place.place 32
    c.loop-place.sum c.part_squares-sum.result before.after before.sum c.part_squares-sum.ensures.sum)
    (omega arith)

pub loop-place-preserved : goal.loop-place-preserved
loop-place-preserved c =
    let before = c.loop-place.invariant in
    record {
      after = omega (arith, before.after);
      before = omega (arith, c.loop-place-test.true);
      sum = part_more c.args.self.now c.args.row c.args.column c.args.behind c.loop-place.place 32
          c.loop-place.sum c.part_squares-sum.result before.after before.sum c.part_squares-sum.ensures.sum;
    }

pub overflow_add-sum-2 : goal.overflow_add-sum-2
overflow_add-sum-2 c =
    omega (
      arith,
      c.loop-place.invariant.sum,
      c.loop-place.invariant.after,
      c.loop-place.invariant.before,
      squares_small c.args.self.now (c.loop-place.place - c.args.behind) (c.args.row + c.args.behind)
          (c.args.column + c.args.behind),
      c.part_squares-sum-2.ensures.small,
      c.args.self.now.plan.grid.short,
    )

pub returns-then-sum-most-2-clause-none : goal.returns-then-sum-most-2-clause-none
returns-then-sum-most-2-clause-none c =
    let before = c.loop-place.invariant in
    subst (λ n. c.args.most ≤ n) (whole_more c.args.self.now c.args.row c.args.column c.args.behind c.loop-place.place
    c.loop-place.sum c.part_squares-sum-2.result before.after before.before before.sum
    c.part_squares-sum-2.ensures.sum) (omega arith)

pub returns-else-sum-most-2-clause-found : goal.returns-else-sum-most-2-clause-found
returns-else-sum-most-2-clause-found c =
    let before = c.loop-place.invariant in
    whole_more c.args.self.now c.args.row c.args.column c.args.behind c.loop-place.place c.loop-place.sum
    c.part_squares-sum-2.result before.after before.before before.sum c.part_squares-sum-2.ensures.sum
