use Rattle.std.proofs.Common.{◌≡◌, drop}
use Rattle.mp_topk.specs.Ranking.{AreRanked, those_in}
use Rattle.mp_topk.proofs.Through.{with_others}
use Rattle.mp_topk.proofs.compact_merging.put_each_compact.Given as goal

abbrev pub invariant-loop-place : goal.invariant-loop-place
invariant-loop-place g l =
    record {
      those : with_others g.row.K (those_in l.slots) (those_in (drop l.place l.others))
          ≡ with_others g.row.K (those_in l.initial.slots) (those_in l.others);
      ranked : AreRanked g.row.K l.slots;
    }
