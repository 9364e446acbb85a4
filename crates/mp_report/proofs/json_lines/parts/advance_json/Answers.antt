use Rattle.mp_replies.specs.Json.{advance_data}
use Rattle.mp_report.proofs.TokenLemmas.{line_says}
use Rattle.mp_report.proofs.json_lines.parts.advance_json.Goals as goal

pub returns : goal.returns
returns c =
    line_says c.end_line.result c.in_ok-json.json c.push_advance.new.json
    (advance_data c.args.line c.args.done c.args.left)
    c.in_ok-json.ensures c.in_ok-push_advance.ensures c.end_line.ensures
