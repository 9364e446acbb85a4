use Rattle.mp_replies.specs.Json.{entry_data}
use Rattle.mp_report.proofs.TokenLemmas.{line_says}
use Rattle.mp_report.proofs.json_lines.profiles.kept_entry_json.Goals as goal

pub returns : goal.returns
returns c =
    line_says c.end_line.result c.in_ok-json.json c.push_window_entry.new.json
    (entry_data c.args.line c.args.i c.args.all c.args.left c.args.right)
    c.in_ok-json.ensures c.in_ok-push_window_entry.ensures c.end_line.ensures
