use Rattle.mp_chains.proofs.Columns.{chains_follow_on}
use Rattle.mp_chains.proofs.laws.chains_follow.Goals as goal

pub returns : goal.returns
returns c = chains_follow_on
