use Rattle.mp_replies.specs.Json.{slots_data}
use Rattle.mp_report.specs.Slots.{slots_kind}
use Rattle.mp_report.proofs.TokenLemmas.{line_says}
use Rattle.mp_report.proofs.json_lines.slots.slots_json.Goals as goal

pub returns : goal.returns
returns c =
    line_says c.end_line.result c.in_ok-json.json c.push_slots.new.json
    (slots_data (slots_kind c.args.name) c.args.line c.args.slots.now)
    c.in_ok-json.ensures c.in_ok-push_slots.ensures c.end_line.ensures
