use Rattle.mp_replies.proofs.Steps.{refused}
use Rattle.mp_replies.proofs.laws.refused_lines_change_nothing.Goals as goal

pub returns : goal.returns
returns c = refused
