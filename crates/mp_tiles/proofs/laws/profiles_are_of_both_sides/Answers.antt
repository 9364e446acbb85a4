use Rattle.mp_tiles.specs.SideLaws.{profiles_are_of_both_sides}
use Rattle.mp_tiles.proofs.laws.profiles_are_of_both_sides.Goals as goal

pub returns : goal.returns
returns c = profiles_are_of_both_sides
