use Rattle.mp_workers.proofs.TileSharing.{none_more}
use Rattle.mp_workers.proofs.shared_tiles.SharedTiles.take.Goals as goal

pub returns-in_default : goal.returns-in_default
returns-in_default c = none_more c.args.self.now c.args.into.now c.requires
