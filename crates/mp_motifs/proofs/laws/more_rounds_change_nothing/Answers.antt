use Rattle.mp_motifs.proofs.Rounds.{more_rounds}
use Rattle.mp_motifs.proofs.laws.more_rounds_change_nothing.Goals as goal

pub returns : goal.returns
returns c = more_rounds
