use Rattle.mp_replies.proofs.Steps.{refused_by_cause}
use Rattle.mp_replies.proofs.laws.answers_refuse_by_cause.Goals as goal

pub returns : goal.returns
returns c = refused_by_cause
