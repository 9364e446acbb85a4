-- The fields of a text, and of fields that are joined.
use Rattle.std.proofs.Common.{◌≡◌, ℕ, ◌<◌, Bool, true, false, List, [], ◌∷◌, ◌++◌, length, refl, ap, ◌∙◌, subst}
use Rattle.std.proofs.Common.{append-nil, ◌-◌, arith, not}
use Rattle.std.specs.Prelude.{All, slice_index, filter}
use Rattle.std.proofs.lemmas.List.{length-append}
use Rattle.std.proofs.Math.Seq.{take-append_seam, drop-append_seam, get_or-append_right}
use Rattle.std.proofs.Math.ListN.{get_or-append}
use Rattle.std.proofs.lemmas.List.Elements.{All-head, All-tail, All-cons, All-nil}
use Rattle.mp_bytes.specs.Bytes.{space, is_blank, is_empty, onto_first}
use Rattle.mp_bytes.specs.Fields.{pieces, fields_in, joined}
use Rattle.mp_bytes.specs.Laws.{IsField}
use Rattle.mp_bytes.proofs.FieldLemmas.{fields-blank, fields-field}

NoBlank : List ℕ → Type 0
NoBlank piece = All (λ b. is_blank b ≡ false) piece

onto_first_without : (b : ℕ) (found : List (List ℕ)) → is_blank b ≡ false → All NoBlank found
    → All NoBlank (onto_first b found)
unfolding NoBlank
onto_first_without b [] shown all =
    All-cons NoBlank (b ∷ []) [] (All-cons (λ c. is_blank c ≡ false) b [] shown (All-nil (λ c. is_blank c ≡ false)))
    (All-nil NoBlank)
onto_first_without b (piece ∷ found) shown all =
    All-cons NoBlank (b ∷ piece) found
    (All-cons (λ c. is_blank c ≡ false) b piece shown (All-head NoBlank piece found all))
    (All-tail NoBlank piece found all)

pieces_by : (b : ℕ) (bs : List ℕ) (blank : Bool) → is_blank b ≡ blank → All NoBlank (pieces bs)
    → All NoBlank (pieces (b ∷ bs))
unfolding NoBlank
pieces_by b bs true is all = rw is (All-cons NoBlank [] (pieces bs) (All-nil (λ c. is_blank c ≡ false)) all)
pieces_by b bs false is all = rw is (onto_first_without b (pieces bs) is all)

pieces_without : (text : List ℕ) → All NoBlank (pieces text)
unfolding NoBlank
pieces_without [] = All-cons NoBlank [] [] (All-nil (λ c. is_blank c ≡ false)) (All-nil NoBlank)
pieces_without (b ∷ bs) = pieces_by b bs (is_blank b) refl (pieces_without bs)

-- those that aren't empty are fields
filter_by : (piece : List ℕ) (found : List (List ℕ)) (empty : Bool) → is_empty piece ≡ empty → NoBlank piece
    → All IsField (filter (λ p. not (is_empty p)) found) → All IsField (filter (λ p. not (is_empty p)) (piece ∷ found))
unfolding NoBlank
filter_by piece found true is shown all = rw is all
filter_by piece found false is shown all =
    rw is (All-cons IsField piece (filter (λ p. not (is_empty p)) found) (record { some = is; no_blank = shown }) all)

filtered : (found : List (List ℕ)) → All NoBlank found → All IsField (filter (λ p. not (is_empty p)) found)
filtered [] all = All-nil IsField
filtered (piece ∷ found) all =
    filter_by piece found (is_empty piece) refl (All-head NoBlank piece found all)
    (filtered found (All-tail NoBlank piece found all))

pub fields_without : (text : List ℕ) → All IsField (fields_in text)
fields_without text = filtered (pieces text) (pieces_without text)

-- ---- fields that are joined

some_length : (field : List ℕ) → is_empty field ≡ false → 0 < length field
some_length [] h = absurd (cc h)
some_length (b ∷ bs) h = omega arith

shown_at : (field behind : List ℕ) → NoBlank field → (k : ℕ) → k < length field
    → is_blank (slice_index (field ++ behind) k) ≡ false
unfolding NoBlank
shown_at field behind all k lt = rw (get_or-append field behind 0 k lt) (all k 0 lt)

shown_in : (field behind : List ℕ) → IsField field → (k : ℕ) → k < length field
    → is_blank (slice_index (field ++ behind) k) ≡ false
unfolding NoBlank
shown_in field behind is k lt = shown_at field behind is.no_blank k lt

begins_behind : (field behind : List ℕ) → is_blank (slice_index behind 0) ≡ true
    → is_blank (slice_index (field ++ behind) (length field)) ≡ true
begins_behind field behind blank =
    let start : length field - length field ≡ 0 = omega arith in
    rw (get_or-append_right field behind (length field) 0 (omega arith), start) blank

-- a field and what begins with a blank, or nothing
first_field : (field behind : List ℕ) → IsField field → (0 < length behind → is_blank (slice_index behind 0) ≡ true)
    → fields_in (field ++ behind) ≡ field ∷ fields_in behind
first_field field behind is blank =
    fields-field (field ++ behind) (length field) (some_length field is.some)
    (omega (arith, length-append field behind))
    (shown_in field behind is)
    (λ more. begins_behind field behind (blank (omega (arith, length-append field behind, more))))
    ∙ rw (take-append_seam field behind, drop-append_seam field behind) refl

pub joined_again : (found : List (List ℕ)) → All IsField found → fields_in (joined found) ≡ found
joined_again [] all = refl
joined_again (field ∷ []) all =
    subst (λ text. fields_in text ≡ field ∷ []) (append-nil field)
    (first_field field [] (All-head IsField field [] all) (λ some. absurd (omega (arith, some))))
joined_again (field ∷ next ∷ others) all =
    first_field field (space ∷ joined (next ∷ others)) (All-head IsField field (next ∷ others) all) (λ _. refl)
    ∙ ap (λ found. field ∷ found)
    (fields-blank space (joined (next ∷ others)) refl
    ∙ joined_again (next ∷ others) (All-tail IsField field (next ∷ others) all))
