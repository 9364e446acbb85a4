use Rattle.mp_claims.proofs.Runs.{any_shares}
use Rattle.mp_claims.proofs.laws.any_shares_make_the_whole.Goals as goal

pub returns : goal.returns
returns c = any_shares
