use Rattle.mp_workers.proofs.Closing.{desk_gives_each_piece}
use Rattle.mp_workers.proofs.laws.desk_gives_each_piece.Goals as goal

pub returns : goal.returns
returns c = desk_gives_each_piece
