use Rattle.mp_replies.proofs.BadItems.{bad_items}
use Rattle.mp_replies.proofs.laws.bad_items_are_the_first.Goals as goal

pub returns : goal.returns
returns c = bad_items
