use Rattle.mp_text.proofs.FirstFaults.{first_faults}
use Rattle.mp_text.proofs.laws.table_faults_are_the_first.Goals as goal

pub returns : goal.returns
returns c = first_faults
