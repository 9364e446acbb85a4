use Rattle.std.proofs.Common.{refl}
use Rattle.mp_defs.specs.Distance.{distance}
use Rattle.mp_defs.specs.Least.{near}
use Rattle.mp_results.specs.Rising.{inserted, rising}
use Rattle.mp_multi.proofs.examples.worked_profiles.Goals as goal

pub returns : goal.returns
unfolding near distance inserted rising
returns c = record {
  nearest_channel = refl;
  both_channels = refl;
  either_channel = refl;
  no_samples = refl;
}
