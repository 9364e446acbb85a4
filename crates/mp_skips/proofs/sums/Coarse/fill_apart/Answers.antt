use Rattle.std.proofs.Common.{◌+◌, ◌*◌, sym, ap, arith}
use Rattle.mp_skips.specs.Blocks.{apart_at, squares_apart}
use Rattle.mp_skips.proofs.TotalLemmas.{total_zero}
use Rattle.mp_skips.proofs.BlockLemmas.{apart_lane_place, apart_lane_more, apart_more_small, apart_small, sum_small}
use Rattle.mp_skips.proofs.VectorLemmas.{lanes_all, lanes_same}
use Rattle.mp_skips.proofs.sums.Coarse.fill_apart.Goals as goal

pub loop-t-init : goal.loop-t-init
loop-t-init c =
    let coarse = c.args.self.now in
    record {
      sums = lanes_same _ _ _ (lanes_all 0)
          (λ u lt. sym (total_zero (λ t. apart_at coarse c.args.row (c.args.column + u) t
          * apart_at coarse c.args.row (c.args.column + u) t)));
      small = λ u lt. omega (arith, (lanes_all 0).each u lt);
    }

pub add_gaps-requires-clause-numbers : goal.add_gaps-requires-clause-numbers
add_gaps-requires-clause-numbers c =
    apart_lane_place c.args.self.now c.args.column c.loop-t.t c.loop-t-test.true c.requires.columns

pub add_gaps-requires-clause-slack : goal.add_gaps-requires-clause-slack
add_gaps-requires-clause-slack c = omega (arith, c.args.self.now.rows.units.grain.few)

pub add_gaps-requires-clause-fits : goal.add_gaps-requires-clause-fits
add_gaps-requires-clause-fits c = λ u lt.
    apart_small c.args.self.now c.args.row c.args.column c.loop-t.t u _ c.loop-t-test.true
    (c.loop-t.invariant.small u lt)

pub loop-t-preserved : goal.loop-t-preserved
loop-t-preserved c = record {
  sums = lanes_same _ _ _ c.add_gaps.ensures
      (λ u lt. apart_lane_more c.args.self.now c.args.row c.args.column c.loop-t.t u _
      (c.loop-t.invariant.sums.each u lt));
  small = λ u lt. omega (
    arith,
    c.add_gaps.ensures.each u lt,
    apart_more_small c.args.self.now c.args.row c.args.column c.loop-t.t u _ (c.loop-t.invariant.small u lt),
  );
}

pub returns-clause-sums : goal.returns-clause-sums
returns-clause-sums c =
    lanes_same _ _ _ c.loop-t.invariant.sums
    (λ u lt. ap (squares_apart c.args.self.now c.args.row (c.args.column + u))
    (omega (arith, c.loop-t-test.false, c.loop-t.auto.t-end)))

pub returns-clause-small : goal.returns-clause-small
returns-clause-small c = λ u lt.
    sum_small c.args.self.now _ c.loop-t.t (c.loop-t.invariant.small u lt) (omega (arith, c.loop-t.auto.t-end))
