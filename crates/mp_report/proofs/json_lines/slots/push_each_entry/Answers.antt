use Rattle.std.proofs.Common.{ℕ, Option, ◌∙◌, rules}
use Rattle.mp_nums.specs.declared.nearest.Near.{Near}
use Rattle.mp_replies.specs.Json.{entry_object}
use Rattle.mp_report.specs.Tokens.{tokens_of}
use Rattle.mp_report.proofs.ListLemmas.{numbered_lines_grow}
use Rattle.mp_report.proofs.json_lines.slots.push_each_entry.Goals as goal

pub loop-start-preserved : goal.loop-start-preserved
loop-start-preserved c = (
  c.in_ok-push_entry.ensures.0 ∙ c.loop-start.invariant.0,
  numbered_lines_grow (λ (item : ℕ × Option Near). tokens_of (entry_object item)) c.args.slots.now c.loop-start.start
      _ _ _ _ (search rules) c.loop-start.invariant.1 c.in_ok-push_entry.ensures.1,
)
