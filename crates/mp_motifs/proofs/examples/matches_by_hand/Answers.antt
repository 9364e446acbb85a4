use Rattle.std.proofs.Common.{refl}
use Rattle.mp_picks.specs.Picks.{first_of, picks}
use Rattle.mp_motifs.proofs.examples.matches_by_hand.Goals as goal

pub returns : goal.returns
unfolding picks first_of
returns c = record { apart = refl; one = refl; around = refl; further = refl; edge = refl }
