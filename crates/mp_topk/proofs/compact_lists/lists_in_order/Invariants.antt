use Rattle.std.proofs.Common.{◌≡◌, map, take}
use Rattle.mp_topk.specs.Ranking.{lists_in, those_in}
use Rattle.mp_topk.proofs.compact_lists.lists_in_order.Given as goal

abbrev pub invariant-loop-place : goal.invariant-loop-place
invariant-loop-place g l = lists_in l.lists.items ≡ map those_in (take l.place-index l.places)
