use Rattle.mp_skips.proofs.FloorLemmas.{floors_safe}
use Rattle.mp_skips.proofs.laws.floors_are_safe.Goals as goal

pub returns : goal.returns
returns c = floors_safe
