use Rattle.mp_claims.proofs.Runs.{run_once}
use Rattle.mp_claims.proofs.laws.pieces_are_once.Goals as goal

pub returns : goal.returns
returns c = run_once
