use Rattle.std.proofs.Common.{arith}
use Rattle.mp_partial.specs.PatchingLaws.{part_is}
use Rattle.mp_partial.proofs.columns.part.Goals as goal

pub returns-clause-slots : goal.returns-clause-slots
returns-clause-slots c = part_is _ _ _ _ _ c.as_slice.ensures (omega arith) c.requires
