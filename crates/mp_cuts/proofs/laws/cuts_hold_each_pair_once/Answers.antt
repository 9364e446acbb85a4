use Rattle.mp_cuts.specs.CutLaws.{cuts_hold_each_pair_once}
use Rattle.mp_cuts.proofs.laws.cuts_hold_each_pair_once.Goals as goal

pub returns : goal.returns
returns c = cuts_hold_each_pair_once
