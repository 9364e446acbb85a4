use Rattle.mp_pan.proofs.Rising.{rising_pairs}
use Rattle.mp_pan.proofs.laws.best_pairs_rise.Goals as goal

pub returns : goal.returns
returns c = rising_pairs
