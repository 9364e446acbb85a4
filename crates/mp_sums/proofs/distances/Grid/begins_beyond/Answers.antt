use Rattle.std.proofs.Common.{arith}
use Rattle.mp_sums.specs.Grids.{row_numbers, column_numbers}
use Rattle.mp_sums.specs.SumLaws.{first_of_all, distances_are_sums}
use Rattle.mp_sums.proofs.StopLemmas.{none_beyond}
use Rattle.mp_sums.proofs.distances.Grid.begins_beyond.Goals as goal

pub returns-clause-first : goal.returns-clause-first
returns-clause-first c =
    none_beyond _ _ _ _ _ _ _ _ c.is_none.ensures c.first_sum_within.ensures.found
    c.first_sum_within.ensures.within c.first_sum_within.ensures.none

pub returns-clause-distance : goal.returns-clause-distance
returns-clause-distance c = λ d is beyond.
    let grid = c.args.self.now in
    omega (
      arith,
      (returns-clause-first c).0 beyond,
      first_of_all c.args.count grid.m (row_numbers grid) c.args.row (column_numbers grid) c.args.column
          c.requires.count,
      distances_are_sums _ _ _ _ _ d is,
    )
