use Rattle.mp_replies.proofs.Steps.{ends_answered}
use Rattle.mp_replies.proofs.laws.ends_are_answered.Goals as goal

pub returns : goal.returns
returns c = ends_answered
