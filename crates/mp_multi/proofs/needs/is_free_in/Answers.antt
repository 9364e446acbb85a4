use Rattle.std.proofs.Common.{arith}
use Rattle.mp_multi.proofs.FreeLemmas.{marked}
use Rattle.mp_multi.proofs.needs.is_free_in.Goals as goal

pub returns : goal.returns
returns c = marked c.args.coarse.now c.args.window c.requires
