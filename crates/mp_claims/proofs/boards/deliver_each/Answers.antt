use Rattle.std.proofs.Common.{arith}
use Rattle.mp_claims.proofs.Deliveries.{handed_when_all}
use Rattle.mp_claims.proofs.boards.deliver_each.Goals as goal

pub returns : goal.returns
returns c = handed_when_all _ _ _ _ (omega arith) c.loop-piece.invariant
