-- The answer to a line, as data.
use Rattle.mp_replies.specs.declared.causes.Cause.{Cause}
use Rattle.mp_replies.specs.Command.{Report}

pub data Answer : Type 0 where
  -- to a blank line or a comment
  Silent : Answer
  Refused : (cause : Cause) → Answer
  Accepted : (report : Report) → Answer
  -- accepted, and no line behind is run
  Ended : (report : Report) → Answer
