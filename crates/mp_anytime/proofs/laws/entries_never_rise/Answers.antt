use Rattle.mp_anytime.proofs.LawLemmas as proved
use Rattle.mp_anytime.proofs.laws.entries_never_rise.Goals as goal

pub returns : goal.returns
returns c = proved.entries_never_rise
