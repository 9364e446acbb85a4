use Rattle.mp_defs.specs.DistanceLaws.{symmetric}
use Rattle.mp_defs.proofs.laws.distance_is_symmetric.Goals as goal

pub returns : goal.returns
returns c = symmetric
