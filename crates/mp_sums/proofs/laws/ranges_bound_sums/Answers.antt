use Rattle.mp_sums.specs.RangeLaws.{ranges_bound_sums}
use Rattle.mp_sums.proofs.laws.ranges_bound_sums.Goals as goal

pub returns : goal.returns
returns c = ranges_bound_sums
