use Rattle.mp_defs.specs.LeastLaws.{near_is_first}
use Rattle.mp_defs.proofs.laws.least_is_first.Goals as goal

pub returns : goal.returns
returns c = near_is_first
