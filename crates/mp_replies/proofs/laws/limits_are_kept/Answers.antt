use Rattle.mp_replies.specs.LimitLaws.{limits_kept}
use Rattle.mp_replies.proofs.laws.limits_are_kept.Goals as goal

pub returns : goal.returns
returns c = limits_kept
