use Rattle.std.specs.List.{enumerate_from}
use Rattle.mp_replies.specs.Json.{entry_object}
use Rattle.mp_report.proofs.TokenLemmas.{array_says}
use Rattle.mp_report.proofs.json_lines.slots.push_entries.Goals as goal

pub returns : goal.returns
returns c =
    array_says entry_object (enumerate_from 0 c.args.slots.now)
    c.args.json.now c.begin_array.new.self c.push_each_entry.new.json c.end_array.new.self
    (c.in_ok-begin_array.ensures.room.0, c.in_ok-begin_array.ensures.ok) c.in_ok-push_each_entry.ensures
    (c.in_ok-end_array.ensures.room.0, c.in_ok-end_array.ensures.ok)
