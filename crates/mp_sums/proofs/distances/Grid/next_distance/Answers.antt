use Rattle.std.proofs.Common.{◌∙◌, sym, arith}
use Rattle.mp_sums.specs.SumLaws.{is_sum_moved_on, leaves_within, is_small, distances_are_sums}
use Rattle.mp_sums.proofs.distances.Grid.next_distance.Goals as goal

pub overflow_add-result : goal.overflow_add-result
overflow_add-result c =
    omega (arith, is_small _ _ _ _ _ _ c.requires.sum, c.args.self.now.short, c.square-enters.ensures.small)

pub overflow_sub-result : goal.overflow_sub-result
overflow_sub-result c =
    leaves_within _ _ _ _ _ _ _ _ c.requires.sum c.square-enters.ensures.square c.square-leaves.ensures.square

pub returns-clause-sum : goal.returns-clause-sum
returns-clause-sum c =
    is_sum_moved_on _ _ _ _ _ _ _ _ c.requires.sum c.square-enters.ensures.square c.square-enters.ensures.small
    c.square-leaves.ensures.square

pub returns-clause-distance : goal.returns-clause-distance
returns-clause-distance c = λ d e.
    (is_sum_moved_on _ _ _ _ _ _ _ _ c.requires.sum c.square-enters.ensures.square c.square-enters.ensures.small
    c.square-leaves.ensures.square).sum_is
    ∙ sym (distances_are_sums _ _ _ _ _ d e)

pub returns-clause-small : goal.returns-clause-small
returns-clause-small c =
    omega (
      arith,
      is_small _ _ _ _ _ _ (is_sum_moved_on _ _ _ _ _ _ _ _ c.requires.sum c.square-enters.ensures.square
          c.square-enters.ensures.small c.square-leaves.ensures.square),
      c.args.self.now.short,
    )
