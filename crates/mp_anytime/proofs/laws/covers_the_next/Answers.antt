use Rattle.mp_anytime.proofs.Stepping as proved
use Rattle.mp_anytime.proofs.laws.covers_the_next.Goals as goal

pub returns : goal.returns
returns c = proved.covers_the_next
