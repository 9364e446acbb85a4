-- No value of the curve is above one.
use Rattle.std.proofs.Common.{◌≡◌, ℕ, ◌*◌, ◌<◌, ◌≤◌, Bool, true, false, length, get_or, refl, sym, subst, arith}
use Rattle.std.proofs.Common.{ltb-true}
use Rattle.std.specs.Prelude.{slice_index, nat_lt, if◌then◌else◌}
use Rattle.std.specs.List.{range_with_len}
use Rattle.std.proofs.lemmas.List.{length-map, get_or-map}
use Rattle.mp_results.specs.Curve.{whole, is_end, share, capped, value_at}
use Rattle.mp_arcs.specs.Laws.{CurveIsAtMostOne}

abbrev IsPart : ℕ × ℕ → Type 0
IsPart value = (value.0 ≤ value.1) × (0 < value.1)

part_if : (b : Bool) (value : ℕ × ℕ) → (b ≡ true → value.0 < value.1) → IsPart (if b then value else whole)
part_if true value h = (let lt = h refl in omega arith, let lt = h refl in omega arith)
part_if false value h = (omega arith, omega arith)

capped_part : (value : ℕ × ℕ) → IsPart (capped value)
capped_part value = part_if (nat_lt value.0 value.1) value (ltb-true value.0 value.1)

end_or_part : (b : Bool) (value : ℕ × ℕ) → IsPart value → IsPart (if b then whole else value)
end_or_part true value part = (omega arith, omega arith)
end_or_part false value part = part

value_part : (arcs w margin t : ℕ) → IsPart (value_at arcs w margin t)
value_part arcs w margin t = end_or_part (is_end w margin t) (capped (share arcs w t)) (capped_part (share arcs w t))

pub at_most_one : CurveIsAtMostOne
at_most_one arcs m factor k d inside =
    let f = λ (t : ℕ). value_at (slice_index arcs t) (length arcs) (factor * m) t in
    let places = range_with_len 0 (length arcs) in
    let within : k < length places = omega (arith, inside, length-map places f) in
    subst IsPart (sym (get_or-map f places k 0 d within))
    (value_part (slice_index arcs (get_or places k 0)) (length arcs) (factor * m) (get_or places k 0))
