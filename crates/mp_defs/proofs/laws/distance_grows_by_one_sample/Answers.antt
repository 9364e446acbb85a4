use Rattle.mp_defs.specs.DistanceLaws.{grows_by_one_sample}
use Rattle.mp_defs.proofs.laws.distance_grows_by_one_sample.Goals as goal

pub returns : goal.returns
returns c = grows_by_one_sample
