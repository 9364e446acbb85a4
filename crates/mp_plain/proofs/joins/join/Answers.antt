use Rattle.mp_plain.proofs.Steps.{column_more}
use Rattle.mp_plain.proofs.joins.join.Goals as goal

pub loop-i-preserved : goal.loop-i-preserved
loop-i-preserved c = column_more _ _ _ _ _ c.loop-i.invariant c.in_ok-push.ensures.ok c.nearest.ensures
