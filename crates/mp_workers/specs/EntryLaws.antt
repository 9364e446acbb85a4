-- What words of entries keep, and what a worker has that takes from them.
use Rattle.std.proofs.Common.{◌≡◌, ℕ, zero, suc, ◌<◌, ◌≤◌, inl, inr, min, List, [], ◌∷◌, length, get_or}
use Rattle.std.proofs.Common.{refl, sym, ap, subst, ◌∙◌, arith, get_or-set_same, get_or-set_other}
use Rattle.std.specs.Prelude.{slice_index, Option, None, replicate}
use Rattle.std.specs.Simd.Lanes.{zip2}
use Rattle.std.proofs.Math.ListN.{set, length-set}
use Rattle.std.proofs.lemmas.Bool.{cases_eq, cases_lt}
use Rattle.std.proofs.lemmas.List.{get_or-replicate, length-replicate}
use Rattle.mp_nums.specs.declared.nearest.Near.{Near}
use Rattle.mp_nums.specs.Near.{nearer_of}
use Rattle.mp_nums.specs.NearLaws.{nearer_associates, nearer_commutes, nearer_repeats, nearer_with_none}
use Rattle.mp_partial.specs.Values.{Column}
use Rattle.mp_partial.specs.MergeLaws.{zip_repeats}
use Rattle.mp_tiles.specs.Compact.{IsWordOf, slot_of_word}
use Rattle.mp_tiles.specs.Scanning.{taken}
use Rattle.mp_workers.specs.Entries.{AreWithin, HasMore, IsWithin, IsWithinColumn, no_word}

-- ---- one slot of a column

parts_of_cons : (x y : Option Near) (xs ys : Column) → x ∷ xs ≡ y ∷ ys → (x ≡ y) × (xs ≡ ys)
parts_of_cons x y xs ys e = (cc, cc)

-- a slot within the whole is taken: the column stays within it
set_within : (xs ws : Column) (p : ℕ) (s : Option Near) → zip2 nearer_of xs ws ≡ ws
    → nearer_of s (get_or ws p None) ≡ get_or ws p None
    → zip2 nearer_of (set xs p (nearer_of (get_or xs p None) s)) ws ≡ ws
set_within [] ws p s h k = h
set_within (x ∷ xs) [] zero s h k = refl
set_within (x ∷ xs) [] (suc p) s h k = refl
set_within (x ∷ xs) (w ∷ ws) zero s h k =
    let both = parts_of_cons (nearer_of x w) w (zip2 nearer_of xs ws) ws h in
    let first : nearer_of (nearer_of x s) w ≡ w = nearer_associates x s w ∙ ap (nearer_of x) k ∙ both.0 in
    cc (first, both.1)
set_within (x ∷ xs) (w ∷ ws) (suc p) s h k =
    let both = parts_of_cons (nearer_of x w) w (zip2 nearer_of xs ws) ws h in
    cc (both.0, set_within xs ws p s both.1 k)

-- and has what it had
set_more : (xs os : Column) (p : ℕ) (s : Option Near) → zip2 nearer_of xs os ≡ xs
    → zip2 nearer_of (set xs p (nearer_of (get_or xs p None) s)) os ≡ set xs p (nearer_of (get_or xs p None) s)
set_more [] os p s h = h
set_more (x ∷ xs) [] p s h = absurd (cc (h))
set_more (x ∷ xs) (o ∷ os) zero s h =
    let both = parts_of_cons (nearer_of x o) x (zip2 nearer_of xs os) xs h in
    let first : nearer_of (nearer_of x s) o ≡ nearer_of x s =
    ap (λ v. nearer_of v o) (nearer_commutes x s) ∙ nearer_associates s x o ∙ ap (nearer_of s) both.0
    ∙ nearer_commutes s x in
    cc (first, both.1)
set_more (x ∷ xs) (o ∷ os) (suc p) s h =
    let both = parts_of_cons (nearer_of x o) x (zip2 nearer_of xs os) xs h in
    cc (both.0, set_more xs os p s both.1)

-- ---- columns that take slots

pub none_taken : (whole column : Column) → IsWithinColumn whole column → HasMore whole column column
none_taken whole column h = record {
  within = h;
  more = zip_repeats nearer_of nearer_repeats column;
  places = refl;
}

pub one_taken : (whole old new : Column) (p word : ℕ) → HasMore whole old new
    → IsWithin word (get_or whole p None) → HasMore whole old (taken new p (slot_of_word word))
one_taken whole old new p word h k = record {
  within = set_within new whole p (slot_of_word word) h.within k;
  more = set_more new old p (slot_of_word word) h.more;
  places = length-set new p (nearer_of (get_or new p None) (slot_of_word word)) ∙ h.places;
}

-- ---- words

slot_within : (xs ws : Column) (p : ℕ) → p < length ws → zip2 nearer_of xs ws ≡ ws
    → nearer_of (get_or xs p None) (get_or ws p None) ≡ get_or ws p None
slot_within xs [] p lt h = absurd (omega (arith, lt))
slot_within [] (w ∷ ws) p lt h = absurd (cc (h))
slot_within (x ∷ xs) (w ∷ ws) zero lt h = (parts_of_cons (nearer_of x w) w (zip2 nearer_of xs ws) ws h).0
slot_within (x ∷ xs) (w ∷ ws) (suc p) lt h =
    slot_within xs ws p (omega (arith, lt)) (parts_of_cons (nearer_of x w) w (zip2 nearer_of xs ws) ws h).1

-- a word that tells nothing is within every slot
pub word_of_none : (slot : Option Near) (word : ℕ) → slot_of_word word ≡ None → IsWithin word slot
word_of_none slot word e = ap (λ s. nearer_of s slot) e ∙ (nearer_with_none slot).0

-- the word of a slot of a column that is within the whole
pub told : (whole column : Column) (p word : ℕ) → IsWithinColumn whole column → p < length whole
    → IsWordOf (get_or column p None) word → IsWithin word (get_or whole p None)
told whole column p word h lt is = elim is [
  | inl nothing ↦ word_of_none (get_or whole p None) word nothing
  | inr same ↦ ap (λ s. nearer_of s (get_or whole p None)) same ∙ slot_within column whole p lt h
]

-- ---- lists of words

lesser_within : (n word : ℕ) (slot : Option Near) → IsWithin n slot → IsWithin word slot
    → IsWithin (min n word) slot
lesser_within n word slot h k = elim (cases_lt n word) [
  | inl less ↦ subst (λ x. IsWithin x slot) (first n word less) h
  | inr more ↦ subst (λ x. IsWithin x slot) (other n word more) k
]
  where
    first : (n word : ℕ) → n < word → n ≡ min n word
    first n word lt = omega (arith, lt)

    other : (n word : ℕ) → word ≤ n → word ≡ min n word
    other n word le = omega (arith, le)

-- a word that is lowered
pub lowered : (whole : Column) (words : List ℕ) (place word : ℕ) → AreWithin whole words → place < length whole
    → IsWithin word (get_or whole place None)
    → AreWithin whole (set words place (min (slice_index words place) word))
lowered whole words place word h lt is = record {
  places = length-set words place (min (slice_index words place) word) ∙ h.places;
  each = λ k below. elim (cases_eq k place) [
    | inl same ↦ subst (λ (q : ℕ). IsWithin (slice_index (set words place (min (slice_index words place) word)) q)
        (get_or whole q None)) (sym same)
        (subst (λ x. IsWithin x (get_or whole place None))
        (sym (get_or-set_same words place (min (slice_index words place) word) _ (omega (arith, lt, h.places))))
        (lesser_within (slice_index words place) word (get_or whole place None) (h.each place lt) is))
    | inr other ↦ subst (λ x. IsWithin x (get_or whole k None))
        (sym (get_or-set_other words place k (min (slice_index words place) word) _ other)) (h.each k below)
  ];
}

-- words that tell nothing
pub none_within : (whole : Column) (count : ℕ) → count ≡ length whole
    → AreWithin whole (replicate count no_word)
none_within whole count e = record {
  places = length-replicate count no_word ∙ e;
  each = λ k lt. subst (λ x. IsWithin x (get_or whole k None))
      (sym (get_or-replicate count k no_word _ (omega (arith, lt, e))))
      (word_of_none (get_or whole k None) no_word refl);
}
