use Rattle.mp_consensus.proofs.LeastCentres.{centre_is}
use Rattle.mp_consensus.proofs.laws.centre_is_least.Goals as goal

pub returns : goal.returns
returns c = centre_is
