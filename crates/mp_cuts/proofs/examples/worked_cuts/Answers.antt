use Rattle.std.proofs.Common.{refl}
use Rattle.mp_cuts.proofs.examples.worked_cuts.Goals as goal

pub returns : goal.returns
returns c = record { four_windows = refl; two_bands = refl; two_bands_of_two = refl; no_windows = refl }
