use Rattle.std.proofs.Common.{refl}
use Rattle.mp_defs.specs.Distance.{distance}
use Rattle.mp_results.specs.Ranks.{in_order, put}
use Rattle.mp_topk.proofs.examples.plain_ranks.Goals as goal

pub returns : goal.returns
unfolding distance in_order put
returns c = refl
