use Rattle.std.proofs.Common.{◌≡◌, ◌∙◌, ap, map, refl, slice_index_or, sym}
use Rattle.std.proofs.lemmas.List.{get_or-map}
use Rattle.mp_results.specs.Curve.{parts_of, whole}
use Rattle.mp_report.proofs.TokenLemmas.{adds_five}
use Rattle.mp_report.proofs.json_lines.segments.push_segment.Goals as goal

pub returns : goal.returns
returns c =
    let here : slice_index_or (map parts_of c.args.curve.now) c.args.place whole ≡ parts_of c.index-curve-place.result =
    get_or-map parts_of c.args.curve.now c.args.place c.index-curve-place.result whole c.requires
    ∙ ap parts_of (sym c.index-curve-place.is) in
    adds_five c.args.json.now c.begin_object.new.self c.push_number_field.new.json c.push_number_field-2.new.json
    c.push_number_field-3.new.json c.end_object.new.self _ _ _ _ _ _
    (c.in_ok-begin_object.ensures.room.0, c.in_ok-begin_object.ensures.ok) c.in_ok-push_number_field.ensures
    c.in_ok-push_number_field-2.ensures c.in_ok-push_number_field-3.ensures
    (c.in_ok-end_object.ensures.room.0, c.in_ok-end_object.ensures.ok) (rw here refl)
