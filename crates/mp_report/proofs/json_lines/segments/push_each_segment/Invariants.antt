use Rattle.std.proofs.Common.{take, map}
use Rattle.mp_results.specs.Curve.{parts_of}
use Rattle.mp_replies.specs.Json.{segment_object}
use Rattle.mp_report.specs.Tokens.{tokens_of_each, Adds}
use Rattle.mp_report.proofs.json_lines.segments.push_each_segment.Given as goal

abbrev pub invariant-loop-place : goal.invariant-loop-place
invariant-loop-place l =
    Adds l.initial.json l.json (tokens_of_each (segment_object (map parts_of l.curve)) (take l.place-index l.places))
