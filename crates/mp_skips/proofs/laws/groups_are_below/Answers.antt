use Rattle.mp_skips.proofs.TotalLemmas.{groups_below}
use Rattle.mp_skips.proofs.laws.groups_are_below.Goals as goal

pub returns : goal.returns
returns c = groups_below
