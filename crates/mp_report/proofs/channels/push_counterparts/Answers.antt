use Rattle.std.proofs.Common.{rules}
use Rattle.mp_replies.specs.ConsensusCommand.{place_near_text}
use Rattle.mp_report.proofs.ListLemmas.{numbered_lines_grow}
use Rattle.mp_report.proofs.channels.push_counterparts.Goals as goal

pub loop-place-preserved : goal.loop-place-preserved
loop-place-preserved c =
    numbered_lines_grow place_near_text c.args.nearest.now c.loop-place.place _ _ _ _ (search rules)
    c.loop-place.invariant c.in_ok-push_counterpart.ensures
