use Rattle.std.proofs.Common.{◌+◌, ◌*◌, sym, ap, arith}
use Rattle.mp_skips.specs.Blocks.{outside_at, squares_outside}
use Rattle.mp_skips.proofs.TotalLemmas.{total_zero}
use Rattle.mp_skips.proofs.BlockLemmas.{lane_column, lane_place, lane_order, lane_more, lane_small, lane_more_small}
use Rattle.mp_skips.proofs.BlockLemmas.{sum_small, reached}
use Rattle.mp_skips.proofs.VectorLemmas.{lanes_all, lanes_same}
use Rattle.mp_skips.proofs.sums.Coarse.eight_sums.Goals as goal

pub loop-t-init : goal.loop-t-init
loop-t-init c =
    let coarse = c.args.self.now in
    record {
      sums = lanes_same _ _ _ (lanes_all 0)
          (λ k lt. sym (total_zero (λ t. outside_at coarse c.args.row (c.args.group + k) t
          * outside_at coarse c.args.row (c.args.group + k) t)));
      small = λ k lt. omega (arith, (lanes_all 0).each k lt);
    }

pub add_squares-requires-clause-least : goal.add_squares-requires-clause-least
add_squares-requires-clause-least c =
    lane_place c.args.self.now c.args.group c.loop-t.t c.loop-t-test.true c.requires.groups

pub add_squares-requires-clause-greatest : goal.add_squares-requires-clause-greatest
add_squares-requires-clause-greatest c =
    omega (
      arith,
      lane_place c.args.self.now c.args.group c.loop-t.t c.loop-t-test.true c.requires.groups,
      c.args.self.now.columns.lists.same_groups,
    )

pub add_squares-requires-clause-order : goal.add_squares-requires-clause-order
add_squares-requires-clause-order c = λ k lt.
    lane_order c.args.self.now c.args.group c.loop-t.t k lt c.loop-t-test.true
    (lane_column c.args.self.now c.args.group k lt c.requires.groups)

pub add_squares-requires-clause-fits : goal.add_squares-requires-clause-fits
add_squares-requires-clause-fits c = λ k lt.
    lane_small c.args.self.now c.args.row c.args.group c.loop-t.t k _ lt c.loop-t-test.true
    (lane_column c.args.self.now c.args.group k lt c.requires.groups) (c.loop-t.invariant.small k lt)

pub loop-t-preserved : goal.loop-t-preserved
loop-t-preserved c = record {
  sums = lanes_same _ _ _ c.add_squares.ensures
      (λ k lt. lane_more c.args.self.now c.args.row c.args.group c.loop-t.t k _ (c.loop-t.invariant.sums.each k lt));
  small = λ k lt. omega (
    arith,
    c.add_squares.ensures.each k lt,
    lane_more_small c.args.self.now c.args.row c.args.group c.loop-t.t k _ lt c.loop-t-test.true
        (lane_column c.args.self.now c.args.group k lt c.requires.groups) (c.loop-t.invariant.small k lt),
  );
}

pub returns-clause-sums : goal.returns-clause-sums
returns-clause-sums c =
    lanes_same _ _ _ c.loop-t.invariant.sums
    (λ k lt. ap (squares_outside c.args.self.now c.args.row (c.args.group + k))
    (omega (arith, c.loop-t-test.false, c.loop-t.auto.t-end)))

pub returns-clause-apart : goal.returns-clause-apart
returns-clause-apart c = λ k need lt le.
    reached c.args.self.now c.args.row (c.args.group + k) need c.requires.row
    (lane_column c.args.self.now c.args.group k lt c.requires.groups)
    (omega (arith, le, (returns-clause-sums c).each k lt))

pub returns-clause-small : goal.returns-clause-small
returns-clause-small c = λ k lt.
    sum_small c.args.self.now _ c.loop-t.t (c.loop-t.invariant.small k lt) (omega (arith, c.loop-t.auto.t-end))
