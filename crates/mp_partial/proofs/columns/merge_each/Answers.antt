use Rattle.std.proofs.Common.{arith}
use Rattle.mp_partial.proofs.Merging.{merged_when_all}
use Rattle.mp_partial.proofs.columns.merge_each.Goals as goal

pub returns : goal.returns
returns c = merged_when_all _ _ _ _ c.requires (omega arith) c.loop-i.invariant
