use Rattle.std.proofs.Common.{refl}
use Rattle.mp_defs.specs.Distance.{distance}
use Rattle.mp_defs.specs.Least.{near}
use Rattle.mp_picks.specs.Picks.{first_of, picks}
use Rattle.mp_results.specs.Motifs.{motifs_among}
use Rattle.mp_motifs.proofs.examples.motifs_by_hand.Goals as goal

pub returns : goal.returns
unfolding motifs_among picks first_of near distance
returns c = record { plain_one = refl; plain_none = refl; shut_out = refl }
