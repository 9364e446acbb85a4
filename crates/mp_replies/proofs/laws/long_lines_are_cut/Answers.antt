use Rattle.mp_replies.specs.CutLaws.{asked_cut, run_cut}
use Rattle.mp_replies.proofs.laws.long_lines_are_cut.Goals as goal

pub returns-clause-asked : goal.returns-clause-asked
returns-clause-asked c = asked_cut

pub returns-clause-run : goal.returns-clause-run
returns-clause-run c = run_cut
