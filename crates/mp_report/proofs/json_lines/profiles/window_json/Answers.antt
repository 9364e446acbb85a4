use Rattle.mp_defs.specs.Series.{series_of}
use Rattle.mp_replies.specs.Json.{window_data}
use Rattle.mp_report.proofs.TokenLemmas.{line_says}
use Rattle.mp_report.proofs.json_lines.profiles.window_json.Goals as goal

pub returns : goal.returns
returns c =
    line_says c.end_line.result c.in_ok-json.json c.push_window.new.json
    (window_data c.args.line c.args.i (series_of c.args.samples.now) c.args.scale)
    c.in_ok-json.ensures c.in_ok-push_window.ensures c.end_line.ensures
