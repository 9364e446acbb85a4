use Rattle.mp_picks.specs.Retelling.{picks_retold}
use Rattle.mp_picks.proofs.laws.picks_are_retold.Goals as goal

pub returns : goal.returns
returns g c = picks_retold
