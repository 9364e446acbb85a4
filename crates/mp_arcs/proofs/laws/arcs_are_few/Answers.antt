use Rattle.mp_arcs.proofs.EndLemmas.{few}
use Rattle.mp_arcs.proofs.laws.arcs_are_few.Goals as goal

pub returns : goal.returns
returns c = few
