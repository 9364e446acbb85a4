-- Where a field of a text ends, what follows it, and how many fields there are.
use Rattle.std.proofs.Common.{◌≡◌, ℕ, zero, suc, ◌+◌, ◌<◌, ◌≤◌, true, false, List, [], ◌∷◌, length, take, drop, get_or}
use Rattle.std.proofs.Common.{refl, arith, ap, ◌∙◌, sym, subst, not}
use Rattle.std.proofs.lemmas.List.{get_or-drop, length-drop}
use Rattle.std.specs.Prelude.{slice_index, filter}
use Rattle.mp_bytes.specs.Bytes.{is_blank, is_empty}
use Rattle.mp_bytes.specs.Fields.{pieces, fields_in}

-- a blank in front changes no field
pub fields-blank : (b : ℕ) (bs : List ℕ) → is_blank b ≡ true → fields_in (b ∷ bs) ≡ fields_in bs
fields-blank b bs h = rw h refl

-- the pieces behind the first, of a text that is empty or begins with a blank
later_pieces : List ℕ → List (List ℕ)
later_pieces [] = []
later_pieces (b ∷ bs) = pieces bs

pieces-field : (text : List ℕ) (n : ℕ) → n ≤ length text → ((k : ℕ) → k < n → is_blank (slice_index text k) ≡ false)
    → (n < length text → is_blank (slice_index text n) ≡ true)
    → pieces text ≡ take n text ∷ later_pieces (drop n text)
unfolding later_pieces
pieces-field [] zero h before end = refl
pieces-field [] (suc n) h before end = absurd (omega arith)
pieces-field (b ∷ bs) zero h before end = let blank : is_blank b ≡ true = end (omega arith) in rw blank refl
pieces-field (b ∷ bs) (suc n) h before end =
    let shown : is_blank b ≡ false = before 0 (omega arith) in
    let others = pieces-field bs n (omega arith) (λ k lt. before (suc k) (omega arith)) (λ lt. end (omega arith)) in
    rw (shown, others) refl

nonempty_take : (text : List ℕ) (n : ℕ) → 0 < n → n ≤ length text → is_empty (take n text) ≡ false
nonempty_take text zero p h = absurd (omega arith)
nonempty_take [] (suc n) p h = absurd (omega arith)
nonempty_take (b ∷ bs) (suc n) p h = refl

kept_field : (field : List ℕ) (others : List (List ℕ)) → is_empty field ≡ false
    → filter (λ piece. not (is_empty piece)) (field ∷ others) ≡ field ∷ filter (λ piece. not (is_empty piece)) others
kept_field field others h = rw h refl

begins : (text : List ℕ) (n : ℕ) → is_blank (slice_index text n) ≡ true → is_blank (slice_index (drop n text) 0) ≡ true
begins text n h =
    let same : n + 0 ≡ n = omega arith in
    let e : get_or (drop n text) 0 0 ≡ get_or text n 0 = get_or-drop n text 0 0 ∙ ap (λ k. get_or text k 0) same in
    subst (λ b. is_blank b ≡ true) (sym e) h

-- the fields of a text that begins with one
pub fields-field : (text : List ℕ) (n : ℕ) → 0 < n → n ≤ length text
    → ((k : ℕ) → k < n → is_blank (slice_index text k) ≡ false)
    → (n < length text → is_blank (slice_index text n) ≡ true)
    → fields_in text ≡ take n text ∷ fields_in (drop n text)
unfolding later_pieces
fields-field text n p h before end =
    let whole = pieces-field text n h before end in
    let rest =
    pieces-field (drop n text) 0 (omega arith) (λ k lt. absurd (omega (arith, lt)))
    (λ lt. begins text n (end (omega (arith, lt, length-drop n text)))) in
    rw (whole, rest) (kept_field (take n text) (later_pieces (drop n text)) (nonempty_take text n p h))
