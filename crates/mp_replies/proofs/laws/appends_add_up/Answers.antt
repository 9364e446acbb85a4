use Rattle.mp_replies.proofs.Appends.{appends}
use Rattle.mp_replies.proofs.laws.appends_add_up.Goals as goal

pub returns : goal.returns
returns c = appends
