use Rattle.std.proofs.Common.{refl}
use Rattle.mp_results.specs.Chains.{links}
use Rattle.mp_chains.proofs.examples.worked_chains.Goals as goal

pub returns : goal.returns
unfolding links
returns c = record {
  from_start = refl;
  from_within = refl;
  all = refl;
  longest = refl;
  near = refl;
  tied = refl;
  first_longest = refl;
  no_windows = refl;
  no_chains = refl;
}
