use Rattle.mp_chains.proofs.Greatest.{longest_first}
use Rattle.mp_chains.proofs.laws.longest_is_first.Goals as goal

pub returns : goal.returns
returns c = longest_first
