use Rattle.std.specs.List.{range_with_len}
use Rattle.mp_replies.specs.Json.{row_object_at}
use Rattle.mp_report.specs.Tokens.{tokens_of_each, Adds}
use Rattle.mp_report.proofs.json_lines.profiles.push_each_row.Given as goal

abbrev pub invariant-loop-place : goal.invariant-loop-place
invariant-loop-place l =
    Adds l.initial.json l.json
    (tokens_of_each (row_object_at l.first (record { all = l.all; left = l.left; right = l.right }))
    (range_with_len 0 l.place))
