use Rattle.mp_sums.specs.Grids.{IsFirstSumIn}
use Rattle.mp_sums.proofs.distances.Grid.free_distance.Given as goal

abbrev pub invariant-loop-k : goal.invariant-loop-k
invariant-loop-k l = IsFirstSumIn l.self l.k l.row l.column l.sum
