use Rattle.std.proofs.Common.{map}
use Rattle.mp_results.specs.Curve.{parts_of}
use Rattle.mp_replies.specs.Json.{segments_data}
use Rattle.mp_report.proofs.TokenLemmas.{line_says}
use Rattle.mp_report.proofs.json_lines.segments.segments_json.Goals as goal

pub returns : goal.returns
returns c =
    line_says c.end_line.result c.in_ok-json.json c.push_segments_report.new.json
    (segments_data c.args.line c.args.places.now (map parts_of c.args.curve.now))
    c.in_ok-json.ensures c.in_ok-push_segments_report.ensures c.end_line.ensures
