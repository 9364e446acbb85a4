use Rattle.std.proofs.Common.{◌∙◌, ap, sym}
use Rattle.mp_sums.specs.Sums.{at_most}
use Rattle.mp_sums.specs.SumLaws.{distances_are_sums}
use Rattle.mp_sums.proofs.StopLemmas.{found_at_most, found_small}
use Rattle.mp_sums.proofs.distances.Grid.distance_within.Goals as goal

pub returns-clause-distance : goal.returns-clause-distance
returns-clause-distance c = λ d e.
    found_at_most c.first_sum_within.result c.args.limit _ _ _ _ _ c.first_sum_within.ensures.found
    c.first_sum_within.ensures.within c.first_sum_within.ensures.none
    ∙ ap (at_most c.args.limit) (sym (distances_are_sums _ _ _ _ _ d e))

pub returns-clause-small : goal.returns-clause-small
returns-clause-small c =
    found_small c.first_sum_within.result _ _ _ _ _ c.args.self.now.short c.first_sum_within.ensures.found
