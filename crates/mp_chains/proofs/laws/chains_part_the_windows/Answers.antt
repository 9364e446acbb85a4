use Rattle.mp_chains.proofs.Parts.{chains_part}
use Rattle.mp_chains.proofs.laws.chains_part_the_windows.Goals as goal

pub returns : goal.returns
returns c = chains_part
