use Rattle.mp_replies.specs.Json.{profile_data}
use Rattle.mp_report.proofs.TokenLemmas.{line_says}
use Rattle.mp_report.proofs.json_lines.profiles.kept_profile_json.Goals as goal

pub returns : goal.returns
returns c =
    line_says c.end_line.result c.in_ok-json.json c.push_profile.new.json
    (profile_data c.args.line c.args.first
    (record { all = c.args.all.now; left = c.args.left.now; right = c.args.right.now }))
    c.in_ok-json.ensures c.in_ok-push_profile.ensures c.end_line.ensures
