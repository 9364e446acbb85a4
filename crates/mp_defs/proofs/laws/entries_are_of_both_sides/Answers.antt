use Rattle.mp_defs.specs.NearestLaws.{entries_are_of_both_sides}
use Rattle.mp_defs.proofs.laws.entries_are_of_both_sides.Goals as goal

pub returns : goal.returns
returns c = entries_are_of_both_sides
