use Rattle.mp_replies.specs.Json.{mpdist_data}
use Rattle.mp_report.proofs.TokenLemmas.{line_says}
use Rattle.mp_report.proofs.json_lines.channels.mpdist_json.Goals as goal

pub returns : goal.returns
returns c =
    line_says c.end_line.result c.in_ok-json.json c.push_mpdist.new.json
    (mpdist_data c.args.line c.args.dist)
    c.in_ok-json.ensures c.in_ok-push_mpdist.ensures c.end_line.ensures
