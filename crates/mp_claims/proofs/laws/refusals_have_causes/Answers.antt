use Rattle.mp_claims.proofs.Runs.{refuses_by}
use Rattle.mp_claims.proofs.laws.refusals_have_causes.Goals as goal

pub returns : goal.returns
returns c = refuses_by
