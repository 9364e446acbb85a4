use Rattle.std.proofs.Common.{arith}
use Rattle.std.proofs.lemmas.Grind.{common_steps}
use Rattle.std.proofs.lemmas.List.Elements.{filter_map-append}
use Rattle.mp_mpdist.proofs.distances.distances_of.Goals as goal

pub returns : goal.returns
returns c = grind (arith, common_steps, filter_map-append)
