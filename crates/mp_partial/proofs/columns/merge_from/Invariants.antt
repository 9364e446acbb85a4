use Rattle.std.proofs.Common.{◌+◌, length}
use Rattle.mp_partial.specs.Patching.{placed}
use Rattle.mp_partial.proofs.Merging.{IsMergedBelow}
use Rattle.mp_partial.proofs.columns.merge_from.Given as goal

abbrev pub invariant-loop-k : goal.invariant-loop-k
invariant-loop-k l =
    record {
      side : IsMergedBelow l.initial.side (placed (length l.initial.side) l.first l.slots) (l.first + l.k) l.side;
      both : IsMergedBelow l.initial.both (placed (length l.initial.side) l.first l.slots) (l.first + l.k) l.both;
    }
