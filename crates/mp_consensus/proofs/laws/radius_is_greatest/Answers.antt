use Rattle.mp_consensus.proofs.Radii.{radius_is}
use Rattle.mp_consensus.proofs.laws.radius_is_greatest.Goals as goal

pub returns : goal.returns
returns c = radius_is
