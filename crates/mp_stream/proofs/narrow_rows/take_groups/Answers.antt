use Rattle.mp_stream.proofs.Taken.{offered_none}
use Rattle.mp_stream.proofs.narrow_rows.take_groups.Goals as goal

pub loop-g-init : goal.loop-g-init
loop-g-init c = record {
  moved = c.requires.moved;
  offered = offered_none _ _ _ _ 1 _ c.requires.ready;
  best = c.requires.best;
}
