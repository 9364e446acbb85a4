use Rattle.mp_tiles.proofs.found.Found.round_by.Goals as goal

pub returns : goal.returns
returns c = cc
