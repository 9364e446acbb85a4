use Rattle.mp_replies.specs.Json.{ok_data}
use Rattle.mp_report.proofs.TokenLemmas.{line_says}
use Rattle.mp_report.proofs.json_lines.answers.ok_json.Goals as goal

pub returns : goal.returns
returns c =
    line_says c.end_line.result c.in_ok-json.json c.push_ok.new.json
    (ok_data c.args.line c.args.samples)
    c.in_ok-json.ensures c.in_ok-push_ok.ensures c.end_line.ensures
