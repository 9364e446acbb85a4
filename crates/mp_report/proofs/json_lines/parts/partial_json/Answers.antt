use Rattle.mp_replies.specs.Json.{partial_data}
use Rattle.mp_replies.specs.Profiles.{columns_in}
use Rattle.mp_report.proofs.TokenLemmas.{line_says}
use Rattle.mp_report.proofs.json_lines.parts.partial_json.Goals as goal

pub returns : goal.returns
returns c =
    line_says c.end_line.result c.in_ok-json.json c.push_partial.new.json
    (partial_data c.args.line (columns_in c.args.profile.now) c.args.left)
    c.in_ok-json.ensures c.in_ok-push_partial.ensures c.end_line.ensures
