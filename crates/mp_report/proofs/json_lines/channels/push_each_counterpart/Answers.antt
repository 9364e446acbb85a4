use Rattle.std.proofs.Common.{ℕ, ◌∙◌, rules}
use Rattle.mp_nums.specs.declared.nearest.Near.{Near}
use Rattle.mp_replies.specs.Json.{place_object}
use Rattle.mp_report.specs.Tokens.{tokens_of}
use Rattle.mp_report.proofs.ListLemmas.{numbered_lines_grow}
use Rattle.mp_report.proofs.json_lines.channels.push_each_counterpart.Goals as goal

pub loop-place-preserved : goal.loop-place-preserved
loop-place-preserved c = (
  c.in_ok-push_counterpart.ensures.0 ∙ c.loop-place.invariant.0,
  numbered_lines_grow (λ (item : ℕ × Near). tokens_of (place_object item)) c.args.nearest.now c.loop-place.place
      _ _ _ _ (search rules) c.loop-place.invariant.1 c.in_ok-push_counterpart.ensures.1,
)
