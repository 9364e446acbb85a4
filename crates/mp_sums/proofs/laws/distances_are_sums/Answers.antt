use Rattle.mp_sums.specs.SumLaws.{distances_are_sums}
use Rattle.mp_sums.proofs.laws.distances_are_sums.Goals as goal

pub returns : goal.returns
returns c = distances_are_sums
