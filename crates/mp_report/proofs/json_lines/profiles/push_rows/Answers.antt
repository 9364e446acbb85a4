use Rattle.std.proofs.Common.{length}
use Rattle.std.specs.List.{range_with_len}
use Rattle.mp_replies.specs.Json.{row_object_at}
use Rattle.mp_report.proofs.TokenLemmas.{array_says}
use Rattle.mp_report.proofs.json_lines.profiles.push_rows.Goals as goal

pub returns : goal.returns
returns c =
    array_says (row_object_at c.args.first
    (record { all = c.args.all.now; left = c.args.left.now; right = c.args.right.now }))
    (range_with_len 0 (length c.args.all.now))
    c.args.json.now c.begin_array.new.self c.push_each_row.new.json c.end_array.new.self
    (c.in_ok-begin_array.ensures.room.0, c.in_ok-begin_array.ensures.ok) c.in_ok-push_each_row.ensures
    (c.in_ok-end_array.ensures.room.0, c.in_ok-end_array.ensures.ok)
