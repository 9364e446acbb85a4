use Rattle.mp_defs.specs.LeastLaws.{grows_by_one_candidate}
use Rattle.mp_defs.proofs.laws.least_grows_by_one_candidate.Goals as goal

pub returns : goal.returns
returns c = grows_by_one_candidate
