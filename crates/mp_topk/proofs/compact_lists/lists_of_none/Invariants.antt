use Rattle.std.proofs.Common.{◌≡◌, [], replicate}
use Rattle.mp_topk.specs.Ranking.{lists_in}
use Rattle.mp_topk.proofs.compact_lists.lists_of_none.Given as goal

abbrev pub invariant-loop : goal.invariant-loop
invariant-loop l = lists_in l.lists.items ≡ replicate l.counter []
