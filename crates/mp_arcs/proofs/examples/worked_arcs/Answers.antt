use Rattle.std.proofs.Common.{refl}
use Rattle.mp_picks.specs.Picks.{picks, first_of}
use Rattle.mp_arcs.proofs.examples.worked_arcs.Goals as goal

pub returns : goal.returns
unfolding picks first_of
returns c = record {
  counts = refl;
  crossing = refl;
  changed = refl;
  unnamed = refl;
  values = refl;
  all_ends = refl;
  regimes = refl;
  apart = refl;
  none = refl;
}
