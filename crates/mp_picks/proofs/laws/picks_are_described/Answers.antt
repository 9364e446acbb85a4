use Rattle.mp_picks.specs.PickLaws.{picks_described}
use Rattle.mp_picks.proofs.laws.picks_are_described.Goals as goal

pub returns : goal.returns
returns g c = picks_described
