use Rattle.std.proofs.Common.{refl}
use Rattle.mp_report.proofs.TokenLemmas.{adds_five}
use Rattle.mp_report.proofs.json_lines.channels.push_counterpart.Goals as goal

pub returns : goal.returns
returns c =
    adds_five c.args.json.now c.begin_object.new.self c.push_square_field.new.json c.push_number_field.new.json
    c.push_number_field-2.new.json c.end_object.new.self _ _ _ _ _ _
    (c.in_ok-begin_object.ensures.room.0, c.in_ok-begin_object.ensures.ok) c.in_ok-push_square_field.ensures
    c.in_ok-push_number_field.ensures c.in_ok-push_number_field-2.ensures
    (c.in_ok-end_object.ensures.room.0, c.in_ok-end_object.ensures.ok) refl
