use Rattle.std.proofs.Common.{refl}
use Rattle.mp_defs.specs.Distance.{distance}
use Rattle.mp_defs.specs.Least.{near}
use Rattle.mp_defs.proofs.examples.joined_entries.Goals as goal

pub returns : goal.returns
unfolding near distance
returns c = record {
  in_itself = refl;
  in_plain = refl;
  in_gaps = refl;
  in_short = refl;
  in_none = refl;
  of_short = refl;
}
