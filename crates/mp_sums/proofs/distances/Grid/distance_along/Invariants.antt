use Rattle.std.proofs.Common.{◌+◌}
use Rattle.mp_sums.specs.Grids.{IsSumIn}
use Rattle.mp_sums.proofs.distances.Grid.distance_along.Given as goal

abbrev pub invariant-loop-k : goal.invariant-loop-k
invariant-loop-k l = IsSumIn l.self (l.row + l.k) (l.column + l.k) l.sum
