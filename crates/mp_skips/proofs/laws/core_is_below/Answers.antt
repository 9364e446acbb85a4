use Rattle.mp_skips.proofs.CoreLemmas.{core_below}
use Rattle.mp_skips.proofs.laws.core_is_below.Goals as goal

pub returns : goal.returns
returns c = core_below
