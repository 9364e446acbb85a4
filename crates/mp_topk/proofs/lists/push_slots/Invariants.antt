use Rattle.std.proofs.Common.{◌≡◌, ◌++◌, drop}
use Rattle.mp_topk.specs.Ranking.{those_in}
use Rattle.mp_topk.proofs.lists.push_slots.Given as goal

abbrev pub invariant-loop-slot : goal.invariant-loop-slot
invariant-loop-slot g l =
    l.list.items ++ those_in (drop l.slot-index l.slots) ≡ l.initial.list.items ++ those_in l.slots
