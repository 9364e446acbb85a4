use Rattle.mp_bytes.proofs.LineLemmas.{are_lines}
use Rattle.mp_bytes.proofs.laws.lines_are_the_input.Goals as goal

pub returns : goal.returns
returns c = are_lines
