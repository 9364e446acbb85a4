-- How many fields a text has.
use Rattle.std.specs.Prelude.{◌≡◌, ℕ, ◌+◌, ◌≤◌, Bool, true, false, not, List, [], ◌∷◌, length, filter}
use Rattle.std.proofs.Common.{refl, arith}
use Rattle.mp_bytes.specs.Bytes.{is_blank, is_empty, onto_first}
use Rattle.mp_bytes.specs.Fields.{pieces, fields_in}

-- a byte in front of the first piece makes at most one field more
onto_first-fields : (b : ℕ) (found : List (List ℕ))
    → length (filter (λ piece. not (is_empty piece)) (onto_first b found))
    ≤ length (filter (λ piece. not (is_empty piece)) found) + 1
onto_first-fields b [] = omega arith
onto_first-fields b ([] ∷ found) = omega arith
onto_first-fields b ((c ∷ piece) ∷ found) = omega arith

fields_within_by : (b : ℕ) (bs : List ℕ) (blank : Bool) → is_blank b ≡ blank
    → length (fields_in bs) ≤ length bs → length (fields_in (b ∷ bs)) ≤ length (b ∷ bs)
fields_within_by b bs true h shorter = rw h (omega arith)
fields_within_by b bs false h shorter = let more = onto_first-fields b (pieces bs) in rw h (omega arith)

-- a text has no more fields than bytes
pub fields_within : (text : List ℕ) → length (fields_in text) ≤ length text
fields_within [] = omega arith
fields_within (b ∷ bs) = fields_within_by b bs (is_blank b) refl (fields_within bs)
