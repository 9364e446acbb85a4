-- The first value of a field.
use Rattle.std.proofs.Common.{◌≡◌, ℕ, suc, ◌+◌, ◌<◌, Bool, true, false, List, [], ◌∷◌, length, take, drop, refl}
use Rattle.std.proofs.Common.{arith, nat_lt, not}
use Rattle.std.specs.Prelude.{Some, None, position, if◌then◌else◌}
use Rattle.std.specs.List.{position_or_len, onto_first}
use Rattle.std.proofs.lemmas.Bool.Decides.{nat_tests}
use Rattle.std.proofs.lemmas.List.Splits.{slice_split_first}
use Rattle.std.proofs.lemmas.List.Sums.{prefix_len-le-length}
use Rattle.mp_bytes.specs.Values.{is_comma, values_in}

found_by : (text : List ℕ) (at : ℕ) (some : Bool) → nat_lt (position_or_len is_comma text) (length text) ≡ some
    → Some at ≡ (if some then Some (position_or_len is_comma text) else None)
    → values_in text ≡ take at text ∷ values_in (drop (at + 1) text)
found_by text at true test h =
    let here : at ≡ position_or_len is_comma text = cc in
    let within : position_or_len is_comma text < length text = grind (arith, nat_tests) in
    rw here (slice_split_first is_comma text 0 within)
found_by text at false test h = absurd (cc h)

-- a comma behind the first value, and the others behind it
pub value_found : (text : List ℕ) (at : ℕ) → Some at ≡ position is_comma text
    → values_in text ≡ take at text ∷ values_in (drop (at + 1) text)
value_found text at h = found_by text at (nat_lt (position_or_len is_comma text) (length text)) refl h

none_at : (b : ℕ) (text : List ℕ) (comma : Bool) → is_comma b ≡ comma
    → (if not comma then 1 + position_or_len is_comma text else 0) ≡ suc (length text)
    → (position_or_len is_comma text ≡ length text → values_in text ≡ text ∷ [])
    → (if comma then [] ∷ values_in text else onto_first b (values_in text)) ≡ (b ∷ text) ∷ []
none_at b text true test h rest = absurd (omega (arith, h))
none_at b text false test h rest = rw (rest (omega (arith, h))) refl

split_none : (text : List ℕ) → position_or_len is_comma text ≡ length text → values_in text ≡ text ∷ []
split_none [] h = refl
split_none (b ∷ text) h = none_at b text (is_comma b) refl h (split_none text)

none_by : (text : List ℕ) (some : Bool) → nat_lt (position_or_len is_comma text) (length text) ≡ some
    → None ≡ (if some then Some (position_or_len is_comma text) else None) → values_in text ≡ text ∷ []
none_by text true test h = absurd (cc h)
none_by text false test h =
    split_none text (grind (arith, nat_tests, prefix_len-le-length (λ b. not (is_comma b)) text))

-- no comma, and the text is the one value
pub value_last : (text : List ℕ) → None ≡ position is_comma text → values_in text ≡ text ∷ []
value_last text h = none_by text (nat_lt (position_or_len is_comma text) (length text)) refl h
