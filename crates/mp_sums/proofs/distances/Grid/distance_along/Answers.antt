use Rattle.std.proofs.Common.{◌+◌, ◌∙◌, sym, arith}
use Rattle.mp_sums.specs.SumLaws.{is_sum_at, is_small, distances_are_sums}
use Rattle.mp_sums.proofs.distances.Grid.distance_along.Goals as goal

pub loop-k-init : goal.loop-k-init
loop-k-init c = is_sum_at _ _ _ _ _ _ _ _ (omega arith) (omega arith) c.requires.sum

pub loop-k-preserved : goal.loop-k-preserved
loop-k-preserved c = is_sum_at _ _ _ _ _ _ _ _ (omega arith) (omega arith) c.next_distance-sum.ensures.sum

pub returns-clause-distance : goal.returns-clause-distance
returns-clause-distance c = λ d e.
    (is_sum_at _ _ _ (c.args.row + c.args.steps) _ _ (c.args.column + c.args.steps) _
    (omega (arith, c.loop-k-test.false, c.loop-k.auto.k-end)) (omega (arith, c.loop-k-test.false, c.loop-k.auto.k-end))
    c.loop-k.invariant).sum_is
    ∙ sym (distances_are_sums _ _ _ _ _ d e)

pub returns-clause-small : goal.returns-clause-small
returns-clause-small c = omega (arith, is_small _ _ _ _ _ _ c.loop-k.invariant, c.args.self.now.short)
