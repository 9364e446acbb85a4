use Rattle.mp_replies.proofs.Ranks.{ranks}
use Rattle.mp_replies.proofs.laws.words_stand_in_order.Goals as goal

pub returns : goal.returns
returns c = ranks
