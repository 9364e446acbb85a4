use Rattle.mp_replies.specs.Json.{refused_data}
use Rattle.mp_report.proofs.TokenLemmas.{line_says}
use Rattle.mp_report.proofs.json_lines.answers.refused_json.Goals as goal

pub returns : goal.returns
returns c =
    line_says c.end_line.result c.in_ok-json.json c.push_refused.new.json
    (refused_data c.args.line c.args.cause)
    c.in_ok-json.ensures c.in_ok-push_refused.ensures c.end_line.ensures
