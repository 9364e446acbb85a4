use Rattle.mp_sums.specs.ResidueLaws.{residues_move_on}
use Rattle.mp_sums.proofs.laws.residues_move_on.Goals as goal

pub returns : goal.returns
returns c = residues_move_on
