use Rattle.std.proofs.Common.{ℕ, List, ◌∙◌, ap, rules}
use Rattle.mp_nums.specs.Listed.{Listed}
use Rattle.mp_nums.specs.declared.nearest.Near.{Near}
use Rattle.mp_replies.specs.Json.{ranks_object}
use Rattle.mp_report.specs.Tokens.{tokens_of}
use Rattle.mp_report.proofs.ListLemmas.{seen_lines_grow}
use Rattle.mp_report.proofs.json_lines.ranks.push_each_list.Goals as goal

pub loop-start-preserved : goal.loop-start-preserved
loop-start-preserved c = (
  c.in_ok-push_ranks.ensures.0 ∙ c.loop-start.invariant.0,
  seen_lines_grow (λ (ranks : ℕ × List Near). tokens_of (ranks_object ranks)) (λ (near : Listed Near). near.items)
      c.args.lists.now c.loop-start.start _ c.as_slice.result.now _ _ _ (search rules)
      (c.as_slice.ensures ∙ ap (λ (near : Listed Near). near.items) c.index-lists-start.is) c.loop-start.invariant.1
      c.in_ok-push_ranks.ensures.1,
)
