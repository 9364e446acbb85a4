use Rattle.std.proofs.Common.{map}
use Rattle.mp_results.specs.Curve.{parts_of}
use Rattle.mp_replies.specs.Json.{segment_object}
use Rattle.mp_report.proofs.TokenLemmas.{array_says}
use Rattle.mp_report.proofs.json_lines.segments.push_segments.Goals as goal

pub returns : goal.returns
returns c =
    array_says (segment_object (map parts_of c.args.curve.now)) c.args.places.now
    c.args.json.now c.begin_array.new.self c.push_each_segment.new.json c.end_array.new.self
    (c.in_ok-begin_array.ensures.room.0, c.in_ok-begin_array.ensures.ok) c.in_ok-push_each_segment.ensures
    (c.in_ok-end_array.ensures.room.0, c.in_ok-end_array.ensures.ok)
