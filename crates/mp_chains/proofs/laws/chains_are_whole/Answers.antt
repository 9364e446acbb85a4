use Rattle.mp_chains.proofs.Parts.{chains_whole}
use Rattle.mp_chains.proofs.laws.chains_are_whole.Goals as goal

pub returns : goal.returns
returns c = chains_whole
