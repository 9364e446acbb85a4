use Rattle.mp_topk.specs.OrderLaws.{first_is_entry}
use Rattle.mp_topk.proofs.laws.first_rank_is_the_entry.Goals as goal

pub returns : goal.returns
returns c = first_is_entry
