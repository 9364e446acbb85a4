use Rattle.mp_multi.proofs.NearestByValue.{entry_is_nearest}
use Rattle.mp_multi.proofs.laws.entry_is_nearest.Goals as goal

pub returns : goal.returns
returns c = entry_is_nearest
