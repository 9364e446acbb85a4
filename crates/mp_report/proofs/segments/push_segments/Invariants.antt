use Rattle.std.proofs.Common.{◌≡◌, ◌++◌, take, map}
use Rattle.std.specs.Prelude.{flat_map}
use Rattle.mp_results.specs.Curve.{parts_of}
use Rattle.mp_replies.specs.SegmentsCommand.{segment_text}
use Rattle.mp_report.proofs.segments.push_segments.Given as goal

abbrev pub invariant-loop-place : goal.invariant-loop-place
invariant-loop-place l =
    l.text.items ≡ l.initial.text.items ++ flat_map (segment_text (map parts_of l.curve)) (take l.place-index l.places)
