use Rattle.mp_replies.specs.Json.{near_object}
use Rattle.mp_report.proofs.TokenLemmas.{array_says}
use Rattle.mp_report.proofs.json_lines.values.push_nears.Goals as goal

pub returns : goal.returns
returns c =
    array_says near_object c.args.list.now
    c.args.json.now c.begin_array.new.self c.push_each_near.new.json c.end_array.new.self
    (c.in_ok-begin_array.ensures.room.0, c.in_ok-begin_array.ensures.ok) c.in_ok-push_each_near.ensures
    (c.in_ok-end_array.ensures.room.0, c.in_ok-end_array.ensures.ok)
