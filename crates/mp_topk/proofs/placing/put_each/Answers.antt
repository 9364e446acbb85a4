use Rattle.std.proofs.Common.{arith, ◌∙◌}
use Rattle.mp_topk.specs.Ranking.{those_in}
use Rattle.mp_topk.proofs.Through.{all_are_put, one_more}
use Rattle.mp_topk.proofs.placing.put_each.Goals as goal

pub loop-other-preserved : goal.loop-other-preserved
loop-other-preserved g c = record {
  those = one_more g.row.K c.loop-other.other-index (those_in c.loop-other.slots) _ c.args.others.now
      (omega (arith, c.loop-other-test.true)) c.put_slot.ensures.those ∙ c.loop-other.invariant.those;
  ranked = c.put_slot.ensures.ranked;
}

pub returns-clause-those : goal.returns-clause-those
returns-clause-those g c = all_are_put g.row.K c.loop-other.other-index c.loop-other.slots c.args.others.now
    c.loop-other.invariant.ranked (omega (arith, c.loop-other-test.false)) ∙ c.loop-other.invariant.those
