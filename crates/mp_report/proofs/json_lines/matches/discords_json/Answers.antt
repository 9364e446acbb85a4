use Rattle.mp_replies.specs.Json.{discords_data}
use Rattle.mp_report.proofs.TokenLemmas.{line_says}
use Rattle.mp_report.proofs.json_lines.matches.discords_json.Goals as goal

pub returns : goal.returns
returns c =
    line_says c.end_line.result c.in_ok-json.json c.push_discords_report.new.json
    (discords_data c.args.line c.args.list.now)
    c.in_ok-json.ensures c.in_ok-push_discords_report.ensures c.end_line.ensures
