use Rattle.mp_claims.proofs.Deliveries.{AreHandedBelow}
use Rattle.mp_claims.proofs.boards.deliver_each.Given as goal

abbrev pub invariant-loop-piece : goal.invariant-loop-piece
invariant-loop-piece l = AreHandedBelow l.w l.initial.pieces l.piece-index l.pieces
