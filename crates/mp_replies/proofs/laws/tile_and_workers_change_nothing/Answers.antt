use Rattle.mp_replies.proofs.Steps.{tile_and_workers}
use Rattle.mp_replies.proofs.laws.tile_and_workers_change_nothing.Goals as goal

pub returns : goal.returns
returns c = tile_and_workers
