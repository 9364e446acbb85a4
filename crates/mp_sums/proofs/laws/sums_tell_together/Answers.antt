use Rattle.mp_sums.specs.TogetherLaws.{sums_tell_together}
use Rattle.mp_sums.proofs.laws.sums_tell_together.Goals as goal

pub returns : goal.returns
returns c = sums_tell_together
