use Rattle.mp_arcs.proofs.CurveLemmas.{at_most_one}
use Rattle.mp_arcs.proofs.laws.curve_is_at_most_one.Goals as goal

pub returns : goal.returns
returns c = at_most_one
