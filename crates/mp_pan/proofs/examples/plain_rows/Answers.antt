use Rattle.std.proofs.Common.{refl}
use Rattle.mp_defs.specs.Distance.{distance}
use Rattle.mp_defs.specs.Least.{near}
use Rattle.mp_picks.specs.Picks.{first_of, picks}
use Rattle.mp_pan.proofs.examples.plain_rows.Goals as goal

pub returns : goal.returns
unfolding distance near picks first_of
returns c = refl
