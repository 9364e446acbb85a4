use Rattle.mp_arcs.proofs.RegimeLemmas.{regimes_of_parts}
use Rattle.mp_arcs.proofs.laws.regimes_are_of_parts.Goals as goal

pub returns : goal.returns
returns c = regimes_of_parts
