use Rattle.std.proofs.Common.{◌≡◌, ◌++◌, drop}
use Rattle.mp_topk.specs.Ranking.{those_in}
use Rattle.mp_topk.proofs.compact_lists.compact_list_of.Given as goal

abbrev pub invariant-loop-slot : goal.invariant-loop-slot
invariant-loop-slot g l = l.list.items ++ those_in (drop l.slot-index l.slots) ≡ those_in l.slots
