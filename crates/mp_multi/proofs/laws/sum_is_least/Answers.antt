use Rattle.mp_multi.proofs.LeastSums.{sum_is_least}
use Rattle.mp_multi.proofs.laws.sum_is_least.Goals as goal

pub returns : goal.returns
returns c = sum_is_least
