use Rattle.std.proofs.Common.{ℕ, ◌+◌, ◌*◌, ◌≤◌, ◌∙◌, sym, ap, arith}
use Rattle.mp_skips.specs.declared.sums.TheConstants.{MOST_GRAINS}
use Rattle.mp_skips.specs.Totals.{total}
use Rattle.mp_skips.specs.Blocks.{outside_at, squares_outside}
use Rattle.mp_skips.proofs.TotalLemmas.{total_zero, total_more}
use Rattle.mp_skips.proofs.BlockLemmas.{term_small, more_small, sum_small, square_small, order_there}
use Rattle.mp_skips.proofs.sums.Coarse.square_sum.Goals as goal

pub loop-t-init : goal.loop-t-init
loop-t-init c =
    let coarse = c.args.self.now in
    record {
      sum = sym (total_zero (λ t. outside_at coarse c.args.row c.args.group t
          * outside_at coarse c.args.row c.args.group t));
      small = omega arith;
    }

pub loop-t-preserved : goal.loop-t-preserved
loop-t-preserved c =
    let coarse = c.args.self.now in
    let t = c.loop-t.t in
    let gap = c.distance_outside-gap.result in
    let squares : ℕ → ℕ = λ n. outside_at coarse c.args.row c.args.group n * outside_at coarse c.args.row
    c.args.group n in
    let here : gap ≤ MOST_GRAINS =
    omega (
      arith,
      c.distance_outside-gap.ensures,
      term_small coarse c.args.row c.args.group t c.loop-t-test.true
          c.requires.group,
    ) in
    record {
      sum = ap (λ n. n + gap * gap) c.loop-t.invariant.sum
          ∙ ap (λ n. total squares t + n * n) c.distance_outside-gap.ensures ∙ sym (total_more squares t);
      small = more_small c.loop-t.sum t gap c.loop-t.invariant.small here;
    }

pub distance_outside-gap-requires : goal.distance_outside-gap-requires
distance_outside-gap-requires c =
    order_there c.args.self.now c.args.group c.loop-t.t c.loop-t-test.true c.requires.group

pub overflow_mul-sum : goal.overflow_mul-sum
overflow_mul-sum c = omega (
  arith,
  square_small c.distance_outside-gap.result
      (omega (
        arith,
        c.distance_outside-gap.ensures,
        term_small c.args.self.now c.args.row c.args.group c.loop-t.t
            c.loop-t-test.true c.requires.group,
      )),
)

pub overflow_add-sum : goal.overflow_add-sum
overflow_add-sum c = omega (
  arith,
  sum_small c.args.self.now (c.loop-t.sum + c.distance_outside-gap.result * c.distance_outside-gap.result)
      (c.loop-t.t + 1)
      (more_small c.loop-t.sum c.loop-t.t c.distance_outside-gap.result c.loop-t.invariant.small
      (omega (
        arith,
        c.distance_outside-gap.ensures,
        term_small c.args.self.now c.args.row c.args.group c.loop-t.t
            c.loop-t-test.true c.requires.group,
      )))
      (omega (arith, c.loop-t-test.true)),
)

pub returns-clause-sum : goal.returns-clause-sum
returns-clause-sum c =
    c.loop-t.invariant.sum
    ∙ ap (squares_outside c.args.self.now c.args.row c.args.group)
    (omega (arith, c.loop-t-test.false, c.loop-t.auto.t-end))

pub returns-clause-small : goal.returns-clause-small
returns-clause-small c =
    sum_small c.args.self.now c.loop-t.sum c.loop-t.t c.loop-t.invariant.small (omega (arith, c.loop-t.auto.t-end))
