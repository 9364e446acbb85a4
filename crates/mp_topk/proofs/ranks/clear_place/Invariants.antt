use Rattle.std.proofs.Common.{◌≡◌, length, replicate, take}
use Rattle.std.specs.Prelude.{None}
use Rattle.mp_topk.proofs.ranks.clear_place.Given as goal

abbrev pub invariant-loop-slot : goal.invariant-loop-slot
invariant-loop-slot g l =
    record {
      places : length l.slots ≡ g.row.K;
      cleared : take l.slot-index l.slots ≡ replicate l.slot-index None;
    }
