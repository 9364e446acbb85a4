use Rattle.std.proofs.Common.{refl}
use Rattle.mp_defs.specs.Distance.{distance}
use Rattle.mp_defs.specs.Least.{near}
use Rattle.mp_results.specs.Consensus.{farthest, those_there, centre_among}
use Rattle.mp_consensus.proofs.examples.worked_centres.Goals as goal

pub returns : goal.returns
unfolding near distance farthest those_there centre_among
returns c = record {
  first_of_equals = refl;
  in_another_order = refl;
  same_twice = refl;
  no_free_window = refl;
  no_samples = refl;
}
