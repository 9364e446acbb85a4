use Rattle.mp_topk.specs.OrderLaws.{candidates_in_order}
use Rattle.mp_topk.proofs.laws.candidates_are_in_order.Goals as goal

pub returns : goal.returns
returns c = candidates_in_order
