use Rattle.mp_multi.proofs.TileLaws.{make_the_multi}
use Rattle.mp_multi.proofs.laws.tiles_make_the_multi.Goals as goal

pub returns : goal.returns
returns c = make_the_multi
