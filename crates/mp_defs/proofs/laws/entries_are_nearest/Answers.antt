use Rattle.mp_defs.specs.NearestLaws.{entries_are_nearest}
use Rattle.mp_defs.proofs.laws.entries_are_nearest.Goals as goal

pub returns : goal.returns
returns c = entries_are_nearest
