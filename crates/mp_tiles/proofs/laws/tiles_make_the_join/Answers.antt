use Rattle.mp_tiles.proofs.JoinLaws.{make_the_join}
use Rattle.mp_tiles.proofs.laws.tiles_make_the_join.Goals as goal

pub returns : goal.returns
returns c = make_the_join
