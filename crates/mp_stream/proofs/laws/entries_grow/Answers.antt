use Rattle.mp_stream.proofs.EntryLemmas as proved
use Rattle.mp_stream.proofs.laws.entries_grow.Goals as goal

pub returns : goal.returns
returns c = proved.entries_grow
