use Rattle.std.proofs.Common.{refl}
use Rattle.mp_defs.specs.Distance.{distance}
use Rattle.mp_defs.specs.Least.{near}
use Rattle.mp_defs.proofs.examples.widest_entries.Goals as goal

pub returns : goal.returns
unfolding near distance
returns c = refl
