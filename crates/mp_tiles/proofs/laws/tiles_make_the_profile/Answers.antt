use Rattle.mp_tiles.proofs.ProfileLaws.{make_the_profile}
use Rattle.mp_tiles.proofs.laws.tiles_make_the_profile.Goals as goal

pub returns : goal.returns
returns c = make_the_profile
