use Rattle.mp_arcs.proofs.RegimeLemmas.{regimes_described}
use Rattle.mp_arcs.proofs.laws.regimes_are_described.Goals as goal

pub returns : goal.returns
returns c = regimes_described
