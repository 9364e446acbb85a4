use Rattle.mp_replies.proofs.Steps.{no_file_read}
use Rattle.mp_replies.proofs.laws.other_lines_read_no_file.Goals as goal

pub returns : goal.returns
returns c = no_file_read
