use Rattle.std.proofs.Common.{◌≤◌}
use Rattle.mp_sums.specs.Grids.{IsFirstSumIn}
use Rattle.mp_sums.proofs.distances.Grid.first_sum_within.Given as goal

abbrev pub invariant-loop-k : goal.invariant-loop-k
invariant-loop-k l = record { sum : IsFirstSumIn l.self l.k l.row l.column l.sum; within : l.sum ≤ l.limit }
