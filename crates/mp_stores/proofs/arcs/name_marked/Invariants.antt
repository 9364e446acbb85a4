use Rattle.mp_stores.proofs.ArcLemmas.{AreNamed}
use Rattle.mp_stores.proofs.arcs.name_marked.Given as goal

abbrev pub invariant-loop-block : goal.invariant-loop-block
invariant-loop-block l = AreNamed l.profile l.changed l.block l.board.items
