use Rattle.mp_defs.specs.NearestLaws.{nearest_by_choice}
use Rattle.mp_defs.proofs.laws.nearest_is_by_choice.Goals as goal

pub returns : goal.returns
returns c = nearest_by_choice
