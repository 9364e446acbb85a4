use Rattle.std.proofs.Common.{arith}
use Rattle.std.proofs.lemmas.Grind.{common_steps}
use Rattle.mp_results.specs.Mpdist.{mpdist_of}
use Rattle.mp_mpdist.proofs.distances.mpdist.Goals as goal

pub returns : goal.returns
unfolding mpdist_of
returns c = grind (arith, common_steps)
