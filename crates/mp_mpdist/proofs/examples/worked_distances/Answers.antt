use Rattle.std.proofs.Common.{refl}
use Rattle.mp_results.specs.Mpdist.{in_rising_order, mpdist_of}
use Rattle.mp_mpdist.proofs.examples.worked_distances.Goals as goal

pub returns : goal.returns
unfolding in_rising_order mpdist_of
returns c = record {
  same = refl;
  second = refl;
  third = refl;
  greatest = refl;
  none = refl;
  empty = refl;
}
