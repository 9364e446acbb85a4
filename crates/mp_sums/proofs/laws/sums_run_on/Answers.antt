use Rattle.mp_sums.specs.SumLaws.{sums_run_on}
use Rattle.mp_sums.proofs.laws.sums_run_on.Goals as goal

pub returns : goal.returns
returns c = sums_run_on
