use Rattle.std.proofs.Common.{refl}
use Rattle.mp_report.proofs.TokenLemmas.{adds_more}
use Rattle.mp_report.proofs.json_lines.parts.push_advance.Goals as goal

pub returns : goal.returns
returns c =
    adds_more c.args.json.now c.begin_object.new.self c.end_object.new.self _ _ _
    (c.in_ok-begin_object.ensures.room.0, c.in_ok-begin_object.ensures.ok)
    (adds_more c.begin_object.new.self c.push_number_field.new.json c.end_object.new.self _ _ _
    c.in_ok-push_number_field.ensures
    (adds_more c.push_number_field.new.json c.push_part.new.json c.end_object.new.self _ _ _
    c.in_ok-push_part.ensures (c.in_ok-end_object.ensures.room.0, c.in_ok-end_object.ensures.ok) refl) refl) refl
