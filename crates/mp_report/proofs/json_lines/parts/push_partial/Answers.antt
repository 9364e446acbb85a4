use Rattle.std.proofs.Common.{refl}
use Rattle.mp_report.proofs.TokenLemmas.{adds_five}
use Rattle.mp_report.proofs.json_lines.parts.push_partial.Goals as goal

pub returns : goal.returns
returns c =
    adds_five c.args.json.now c.begin_object.new.self c.push_part.new.json c.key.new.self
    c.push_windows.new.json c.end_object.new.self _ _ _ _ _ _
    (c.in_ok-begin_object.ensures.room.0, c.in_ok-begin_object.ensures.ok) c.in_ok-push_part.ensures
    (c.in_ok-key.ensures.room.0, c.in_ok-key.ensures.ok) c.in_ok-push_windows.ensures
    (c.in_ok-end_object.ensures.room.0, c.in_ok-end_object.ensures.ok) refl
