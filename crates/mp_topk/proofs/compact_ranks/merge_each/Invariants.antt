use Rattle.mp_topk.proofs.Places.{AreMerged}
use Rattle.mp_topk.proofs.compact_ranks.merge_each.Given as goal

abbrev pub invariant-loop-i : goal.invariant-loop-i
invariant-loop-i g l = AreMerged g.row.K l.initial.places l.others l.i l.places
