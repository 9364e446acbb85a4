use Rattle.mp_replies.specs.Json.{number_of}
use Rattle.mp_report.proofs.TokenLemmas.{array_says}
use Rattle.mp_report.proofs.json_lines.chains.push_numbers.Goals as goal

pub returns : goal.returns
returns c =
    array_says number_of c.args.numbers.now
    c.args.json.now c.begin_array.new.self c.push_each_number.new.json c.end_array.new.self
    (c.in_ok-begin_array.ensures.room.0, c.in_ok-begin_array.ensures.ok) c.in_ok-push_each_number.ensures
    (c.in_ok-end_array.ensures.room.0, c.in_ok-end_array.ensures.ok)
