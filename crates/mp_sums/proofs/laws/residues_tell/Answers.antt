use Rattle.mp_sums.specs.ResidueLaws.{residues_tell}
use Rattle.mp_sums.proofs.laws.residues_tell.Goals as goal

pub returns : goal.returns
returns c = residues_tell
