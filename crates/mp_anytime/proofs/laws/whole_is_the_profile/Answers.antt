use Rattle.mp_anytime.proofs.LawLemmas as proved
use Rattle.mp_anytime.proofs.laws.whole_is_the_profile.Goals as goal

pub returns : goal.returns
returns c = proved.whole_is_the_profile
