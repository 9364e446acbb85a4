use Rattle.std.proofs.Common.{◌∙◌, ap, rules}
use Rattle.mp_nums.specs.Listed.{Listed}
use Rattle.mp_nums.specs.declared.nearest.Near.{Near}
use Rattle.mp_replies.specs.NearestCommand.{ranks_text}
use Rattle.mp_report.proofs.ListLemmas.{seen_lines_grow}
use Rattle.mp_report.proofs.ranks.push_lists.Goals as goal

pub loop-start-preserved : goal.loop-start-preserved
loop-start-preserved c =
    seen_lines_grow ranks_text (λ (near : Listed Near). near.items) c.args.lists.now c.loop-start.start _
    c.as_slice.result.now _ _ _ (search rules)
    (c.as_slice.ensures ∙ ap (λ (near : Listed Near). near.items) c.index-lists-start.is) c.loop-start.invariant
    c.in_ok-push_ranks.ensures
