use Rattle.mp_arcs.proofs.EndLemmas.{come_and_go}
use Rattle.mp_arcs.proofs.laws.arcs_come_and_go.Goals as goal

pub returns : goal.returns
returns c = come_and_go
