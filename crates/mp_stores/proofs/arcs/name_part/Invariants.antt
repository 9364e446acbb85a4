use Rattle.mp_stores.specs.Channels.{IsNamed}
use Rattle.mp_stores.proofs.arcs.name_part.Given as goal

abbrev pub invariant-loop-i : goal.invariant-loop-i
invariant-loop-i l = IsNamed l.profile l.first l.i l.initial.board.items l.board.items
