use Rattle.mp_defs.specs.DistanceLaws.{of_free_windows}
use Rattle.mp_defs.proofs.laws.distance_is_of_free_windows.Goals as goal

pub returns : goal.returns
returns c = of_free_windows
