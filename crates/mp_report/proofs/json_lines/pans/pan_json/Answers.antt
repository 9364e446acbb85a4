use Rattle.mp_replies.specs.Json.{pan_data}
use Rattle.mp_report.proofs.TokenLemmas.{line_says}
use Rattle.mp_report.proofs.json_lines.pans.pan_json.Goals as goal

pub returns : goal.returns
returns c =
    line_says c.end_line.result c.in_ok-json.json c.push_pan.new.json
    (pan_data c.args.line c.args.rows.now)
    c.in_ok-json.ensures c.in_ok-push_pan.ensures c.end_line.ensures
