use Rattle.std.proofs.Common.{refl}
use Rattle.mp_report.proofs.TokenLemmas.{adds_five, adds_more}
use Rattle.mp_report.proofs.json_lines.profiles.push_window.Goals as goal

pub returns : goal.returns
returns c =
    adds_more c.args.json.now c.begin_object.new.self c.end_object.new.self _ _ _
    (c.in_ok-begin_object.ensures.room.0, c.in_ok-begin_object.ensures.ok)
    (adds_five c.begin_object.new.self c.push_kind.new.json c.key.new.self c.push_samples.new.json
    c.push_number_field.new.json c.end_object.new.self _ _ _ _ _ _
    c.in_ok-push_kind.ensures (c.in_ok-key.ensures.room.0, c.in_ok-key.ensures.ok)
    c.in_ok-push_samples.ensures c.in_ok-push_number_field.ensures
    (c.in_ok-end_object.ensures.room.0, c.in_ok-end_object.ensures.ok) refl) refl
