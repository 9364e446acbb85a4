use Rattle.std.proofs.Common.{◌≡◌, drop}
use Rattle.mp_topk.specs.Ranking.{AreRanked, those_in}
use Rattle.mp_topk.proofs.Through.{with_others}
use Rattle.mp_topk.proofs.placing.put_each.Given as goal

abbrev pub invariant-loop-other : goal.invariant-loop-other
invariant-loop-other g l =
    record {
      those : with_others g.row.K (those_in l.slots) (those_in (drop l.other-index l.others))
          ≡ with_others g.row.K (those_in l.initial.slots) (those_in l.others);
      ranked : AreRanked g.row.K l.slots;
    }
