use Rattle.mp_plain.proofs.Steps.{column_more}
use Rattle.mp_plain.proofs.profiles.profile.Goals as goal

pub loop-i-preserved : goal.loop-i-preserved
loop-i-preserved c =
    let before = c.loop-i.invariant in
    record {
      all = column_more _ _ _ _ _ before.all c.in_ok-push.ensures.ok c.of-row.ensures.all;
      left = column_more _ _ _ _ _ before.left c.in_ok-push-2.ensures.ok c.of-row.ensures.left;
      right = column_more _ _ _ _ _ before.right c.in_ok-push-3.ensures.ok c.of-row.ensures.right;
    }
