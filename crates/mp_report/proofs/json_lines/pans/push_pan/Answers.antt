use Rattle.std.proofs.Common.{refl}
use Rattle.mp_report.proofs.TokenLemmas.{adds_five, adds_more}
use Rattle.mp_report.proofs.json_lines.pans.push_pan.Goals as goal

pub returns : goal.returns
returns c =
    let kind =
    adds_more c.begin_object.new.self c.key.new.self c.string.new.self _ _ _
    (c.in_ok-key.ensures.room.0, c.in_ok-key.ensures.ok) (c.in_ok-string.ensures.room.0, c.in_ok-string.ensures.ok)
    refl in
    let last =
    adds_more c.push_lengths.new.json c.push_number_field.new.json c.end_object.new.self _ _ _
    c.in_ok-push_number_field.ensures (c.in_ok-end_object.ensures.room.0, c.in_ok-end_object.ensures.ok) refl in
    adds_five c.args.json.now c.begin_object.new.self c.string.new.self c.key-2.new.self c.push_lengths.new.json
    c.end_object.new.self _ _ _ _ _ _
    (c.in_ok-begin_object.ensures.room.0, c.in_ok-begin_object.ensures.ok) kind
    (c.in_ok-key-2.ensures.room.0, c.in_ok-key-2.ensures.ok) c.in_ok-push_lengths.ensures last refl
