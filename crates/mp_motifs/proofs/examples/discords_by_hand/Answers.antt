use Rattle.std.proofs.Common.{refl}
use Rattle.mp_picks.specs.Picks.{first_of, picks}
use Rattle.mp_motifs.proofs.examples.discords_by_hand.Goals as goal

pub returns : goal.returns
unfolding picks first_of
returns c = record { one = refl; two = refl; all = refl }
