use Rattle.std.proofs.Common.{◌<◌, length}
use Rattle.std.specs.Prelude.{◌≢◌}
use Rattle.mp_consensus.proofs.blocks.shortest_other.Given as goal

abbrev pub invariant-loop-other : goal.invariant-loop-other
invariant-loop-other l = record { other : l.shortest < length l.list; apart : l.shortest ≢ l.place }
