use Rattle.mp_replies.proofs.QuietLines.{quiet_lines}
use Rattle.mp_replies.proofs.laws.quiet_lines_are_silent.Goals as goal

pub returns : goal.returns
returns c = quiet_lines
