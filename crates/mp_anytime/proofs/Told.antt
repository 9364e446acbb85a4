-- Slots that residues tell.
use Rattle.std.proofs.Common.{◌≡◌, ℕ, suc, ◌+◌, ◌<◌, ◌≤◌, inl, inr, List, length, get_or, set, refl}
use Rattle.std.proofs.Common.{sym, ap, ◌∙◌, arith, subst, Bool, ℤ, pos, negsuc, replicate}
use Rattle.std.specs.Prelude.{Option, Some, None, ◌⊎◌, ◌-ℤ◌, ◌≤ℤ◌, ◌<ℤ◌, unsigned_abs}
use Rattle.std.proofs.lemmas.Bool.{cases_eq}
use Rattle.std.proofs.lemmas.Bool.Decides.{nat_tests}
use Rattle.std.proofs.lemmas.Int.{ints}
use Rattle.std.proofs.lemmas.List.{ext_get_or, length-set, get_or-set_same, get_or-set_other, get_or-replicate}
use Rattle.std.proofs.lemmas.List.{length-replicate}
use Rattle.std.proofs.lemmas.Simd.{length-zip2, get_or-zip2}
use Rattle.mp_nums.specs.declared.nearest.Near.{Near}
use Rattle.mp_nums.specs.Near.{nearer_of}
use Rattle.mp_defs.specs.Least.{near_at}
use Rattle.mp_partial.specs.Values.{Column, empty_column}
use Rattle.mp_sums.specs.Residues.{item}
use Rattle.mp_sums.specs.declared.residues.TheConstants.{ZERO}
use Rattle.mp_tiles.specs.Scanning.{taken}
use Rattle.mp_anytime.specs.Bounds.{AreGreatest, IsBound, IsQuiet}
use Rattle.mp_anytime.proofs.Quiet.{always_bound, limit_is_bound}
use Rattle.mp_anytime.specs.Told.{AreLower, AreTold, IsTold, lanes_taken, slot_at, slot_by, slots_by, told}

-- ---- one slot

abs_of : (z : ℤ) → pos 0 ≤ℤ z → pos (unsigned_abs z) ≡ z
abs_of (pos n) le = refl
abs_of (negsuc n) le = absurd (omega (arith, ints, le))

pub told_is : (r : ℤ) → IsTold r → pos (told r) ≡ r -ℤ ZERO
told_is r h = let least = h.least in abs_of (r -ℤ ZERO) (omega (arith, ints, least))

told_small : (r : ℤ) → IsTold r → told r ≤ 4294967294
told_small r h = let is = told_is r h in let most = h.most in omega (arith, ints, is, most)

told_less : (r r' : ℤ) → IsTold r → IsTold r' → r <ℤ r' → told r < told r'
told_less r r' h h' lt = let is = told_is r h in let is' = told_is r' h' in omega (arith, ints, is, is', lt)

nearer_at : (d d' s s' : ℕ) → d ≤ 4294967294 → d' ≤ 4294967294 → (d' < d) ⊎ ((d' ≡ d) × (s' < s))
    → nearer_of (slot_at d s) (slot_at d' s') ≡ slot_at d' s'
nearer_at d d' s s' small small' before = elim (cases_eq d 4294967294) [
  | inl none ↦ elim before [
    | inl lt ↦ of_none d d' s s' none lt
    | inr same ↦ none_both d d' s s' none same.0
  ]
  | inr some ↦ elim before [
    | inl lt ↦ nearer d d' s s' small lt
    | inr same ↦ earlier d d' s s' some same.0 same.1
  ]
]
  where
    of_none : (d d' s s' : ℕ) → d ≡ 4294967294 → d' < d → nearer_of (slot_at d s) (slot_at d' s') ≡ slot_at d' s'
    of_none d d' s s' e lt = grind (arith, nat_tests)

    none_both : (d d' s s' : ℕ) → d ≡ 4294967294 → d' ≡ d → nearer_of (slot_at d s) (slot_at d' s') ≡ slot_at d' s'
    none_both d d' s s' e same = grind (arith, nat_tests)

    nearer : (d d' s s' : ℕ) → d ≤ 4294967294 → d' < d → nearer_of (slot_at d s) (slot_at d' s') ≡ slot_at d' s'
    nearer d d' s s' small lt = grind (arith, nat_tests)

    earlier : (d d' s s' : ℕ) → (d ≡ 4294967294 → ⊥) → d' ≡ d → s' < s
        → nearer_of (slot_at d s) (slot_at d' s') ≡ slot_at d' s'
    earlier d d' s s' some same lt = grind (arith, nat_tests)

kept_at : (d d' s s' : ℕ) → d ≤ 4294967294 → d' ≤ 4294967294 → (d < d') ⊎ ((d ≡ d') × (s ≤ s'))
    → nearer_of (slot_at d s) (slot_at d' s') ≡ slot_at d s
kept_at d d' s s' small small' behind = elim behind [
  | inl lt ↦ farther d d' s s' small' lt
  | inr same ↦ later d d' s s' same.0 same.1
]
  where
    farther : (d d' s s' : ℕ) → d' ≤ 4294967294 → d < d' → nearer_of (slot_at d s) (slot_at d' s') ≡ slot_at d s
    farther d d' s s' small lt = grind (arith, nat_tests)

    later : (d d' s s' : ℕ) → d ≡ d' → s ≤ s' → nearer_of (slot_at d s) (slot_at d' s') ≡ slot_at d s
    later d d' s s' same le = grind (arith, nat_tests)

-- a window that comes before is taken
pub nearer_told : (r r' : ℤ) (s s' : ℕ) → IsTold r → IsTold r'
    → (r' <ℤ r) ⊎ ((r' ≡ r) × (s' < s)) → nearer_of (slot_by r s) (slot_by r' s') ≡ slot_by r' s'
nearer_told r r' s s' h h' before =
    nearer_at (told r) (told r') s s' (told_small r h) (told_small r' h') (elim before [
      | inl lt ↦ inl (told_less r' r h' h lt)
      | inr same ↦ inr (ap told same.0, same.1)
    ])

-- and another one isn't
pub kept_told : (r r' : ℤ) (s s' : ℕ) → IsTold r → IsTold r'
    → (r <ℤ r') ⊎ ((r ≡ r') × (s ≤ s')) → nearer_of (slot_by r s) (slot_by r' s') ≡ slot_by r s
kept_told r r' s s' h h' behind =
    kept_at (told r) (told r') s s' (told_small r h) (told_small r' h') (elim behind [
      | inl lt ↦ inl (told_less r r' h h' lt)
      | inr same ↦ inr (ap told same.0, same.1)
    ])

-- what it tells keeps to it
pub told_bound : (m : ℕ) (r : ℤ) (start : ℕ) → IsTold r → IsBound m 0 (slot_by r start) r
told_bound m r start h =
    let is = told_is r h in
    elim (cases_eq (told r) 4294967294) [
      | inl none ↦ always_bound m 0 (slot_by r start) r (omega (arith, ints, is, none))
      | inr some ↦
          let less : told r < 4294967294 = omega (arith, some, told_small r h) in
          subst (λ s. IsBound m 0 s r) (sym (there (told r) start some))
          (limit_is_bound m 0 (near_at start (told r)) r (omega (arith, ints, is, less)))
    ]
  where
    there : (d s : ℕ) → (d ≡ 4294967294 → ⊥) → slot_at d s ≡ Some (near_at s d)
    there d s some = grind (arith, nat_tests)

-- ---- slots

pub slots_long : (rs : List ℤ) (starts : List ℕ) → length starts ≡ length rs
    → length (slots_by rs starts) ≡ length rs
slots_long rs starts same = length-zip2 slot_by rs starts (sym same)

pub slot_there : (rs : List ℤ) (starts : List ℕ) (k : ℕ) → length starts ≡ length rs → k < length rs
    → get_or (slots_by rs starts) k None ≡ slot_by (item rs k) (get_or starts k 0)
slot_there rs starts k same lt =
    get_or-zip2 slot_by rs starts k (pos 0) 0 None lt (omega (arith, lt, same))

pub side_long : (rs : List ℤ) (starts : List ℕ) (slots : Column) → slots_by rs starts ≡ slots
    → length starts ≡ length rs → length slots ≡ length rs
side_long rs starts slots view same = sym (ap length view) ∙ slots_long rs starts same

pub side_slot : (rs : List ℤ) (starts : List ℕ) (slots : Column) (k : ℕ) → slots_by rs starts ≡ slots
    → length starts ≡ length rs → k < length rs → slot_by (item rs k) (get_or starts k 0) ≡ get_or slots k None
side_slot rs starts slots k view same lt =
    sym (slot_there rs starts k same lt) ∙ ap (λ (v : Column). get_or v k None) view

pub side_quiet : (m k : ℕ) (r : ℤ) (rs : List ℤ) (starts : List ℕ) (slots : Column) → slots_by rs starts ≡ slots
    → length starts ≡ length rs → AreTold rs → k < length rs → item rs k <ℤ r → IsQuiet m 0 (get_or slots k None) r
side_quiet m k r rs starts slots view same told lt above =
    subst (λ s. IsQuiet m 0 s r) (side_slot rs starts slots k view same lt)
    ((told_bound m (item rs k) (get_or starts k 0) (told.each k lt)).above r above)

-- the greatest residues tell of no windows
pub always_slots : (rs : List ℤ) (starts : List ℕ) (n : ℕ) → rs ≡ replicate n (pos 2147483647) → length starts ≡ n
    → slots_by rs starts ≡ empty_column n
always_slots rs starts n is count =
    let long : length rs ≡ n = ap length is ∙ length-replicate {A = ℤ} n (pos 2147483647) in
    let same : length starts ≡ length rs = count ∙ sym long in
    ext_get_or None (slots_by rs starts) (empty_column n)
    (slots_long rs starts same ∙ long ∙ sym (length-replicate {A = Option Near} n None))
    (λ k within.
    let lt : k < n = omega (arith, within, slots_long rs starts same, long) in
    slot_there rs starts k same (omega (arith, lt, long))
    ∙ ap (λ z. slot_by z (get_or starts k 0))
    (ap (λ (xs : List ℤ). item xs k) is ∙ get_or-replicate n k (pos 2147483647) (pos 0) lt)
    ∙ sym (get_or-replicate n k None None lt))

pub always_told : (rs : List ℤ) (n : ℕ) → rs ≡ replicate n (pos 2147483647) → AreTold rs
always_told rs n is = record {
  each = λ k lt.
      let same : item rs k ≡ pos 2147483647 =
      ap (λ (xs : List ℤ). item xs k) is
      ∙ get_or-replicate n k (pos 2147483647) (pos 0)
      (omega (arith, lt, ap length is, length-replicate {A = ℤ} n (pos 2147483647))) in
      record { least = omega (arith, ints, same); most = omega (arith, ints, same) };
}

-- what is put at a place is what its slot takes
pub put_told : (rs : List ℤ) (starts : List ℕ) (place : ℕ) (r : ℤ) (s : ℕ) (found : Option Near)
    → length starts ≡ length rs → place < length rs
    → nearer_of (slot_by (item rs place) (get_or starts place 0)) found ≡ slot_by r s
    → slots_by (set rs place r) (set starts place s) ≡ taken (slots_by rs starts) place found
put_told rs starts place r s found same lt is =
    let old : Column = slots_by rs starts in
    let new : Option Near = nearer_of (get_or old place None) found in
    let long : length (set starts place s) ≡ length (set rs place r) =
    length-set starts place s ∙ same ∙ sym (length-set rs place r) in
    let count : length (slots_by (set rs place r) (set starts place s)) ≡ length rs =
    slots_long (set rs place r) (set starts place s) long ∙ length-set rs place r in
    ext_get_or None (slots_by (set rs place r) (set starts place s)) (taken old place found)
    (count ∙ sym (length-set old place new ∙ slots_long rs starts same))
    (λ k within.
    slot_there (set rs place r) (set starts place s) k long
    (omega (arith, within, count, length-set rs place r))
    ∙ elim (cases_eq k place) [
      | inl here ↦
          ap (λ q. slot_by (item (set rs place r) q) (get_or (set starts place s) q 0)) here
          ∙ ap (λ z. slot_by z (get_or (set starts place s) place 0)) (get_or-set_same rs place r (pos 0) lt)
          ∙ ap (slot_by r) (get_or-set_same starts place s 0 (omega (arith, lt, same)))
          ∙ sym is ∙ ap (λ x. nearer_of x found) (sym (slot_there rs starts place same lt))
          ∙ sym (get_or-set_same old place new None (omega (arith, lt, slots_long rs starts same)))
          ∙ ap (λ q. get_or (taken old place found) q None) (sym here)
      | inr other ↦
          ap (λ z. slot_by z (get_or (set starts place s) k 0)) (get_or-set_other rs place k r (pos 0) other)
          ∙ ap (slot_by (item rs k)) (get_or-set_other starts place k s 0 other)
          ∙ sym (slot_there rs starts k same (omega (arith, within, count)))
          ∙ sym (get_or-set_other old place k new None other)
    ])

-- and it tells of a window as they do
pub told_put : (rs : List ℤ) (place : ℕ) (r : ℤ) → AreTold rs → place < length rs → IsTold r
    → AreTold (set rs place r)
told_put rs place r told lt is = record {
  each = λ k within. elim (cases_eq k place) [
    | inl here ↦
        subst (λ q. IsTold (item (set rs place r) q)) (sym here)
        (subst IsTold (sym (get_or-set_same rs place r (pos 0) lt)) is)
    | inr other ↦
        subst IsTold (sym (get_or-set_other rs place k r (pos 0) other))
        (told.each k (omega (arith, within, length-set rs place r)))
  ];
}

-- ---- numbers that are no greater

pub lower_same : (rs : List ℤ) → AreLower rs rs
lower_same rs = record { places = refl; each = λ k lt. omega (arith, ints) }

pub lower_then : (rs ss ts : List ℤ) → AreLower rs ss → AreLower ss ts → AreLower rs ts
lower_then rs ss ts h g = record {
  places = g.places ∙ h.places;
  each = λ k lt.
      let le = h.each k lt in
      let le' = g.each k (omega (arith, lt, h.places)) in
      omega (arith, ints, le, le');
}

pub lower_put : (rs : List ℤ) (place : ℕ) (r : ℤ) → place < length rs → r ≤ℤ item rs place
    → AreLower rs (set rs place r)
lower_put rs place r lt le = record {
  places = length-set rs place r;
  each = λ k within. elim (cases_eq k place) [
    | inl here ↦
        subst (λ q. item (set rs place r) q ≤ℤ item rs q) (sym here)
        (subst (λ z. z ≤ℤ item rs place) (sym (get_or-set_same rs place r (pos 0) lt)) le)
    | inr other ↦
        let same : item (set rs place r) k ≡ item rs k = get_or-set_other rs place k r (pos 0) other in
        omega (arith, ints, same)
  ];
}

pub before_is_lower : (r r' : ℤ) (s s' : ℕ) → (r' <ℤ r) ⊎ ((r' ≡ r) × (s' < s)) → r' ≤ℤ r
before_is_lower r r' s s' before = elim before [
  | inl lt ↦ omega (arith, ints, lt)
  | inr same ↦ let is = same.0 in omega (arith, ints, is)
]

pub greatest_lower : (rs ss blocks : List ℤ) → AreGreatest rs blocks → AreLower rs ss → AreGreatest ss blocks
greatest_lower rs ss blocks h g = record {
  places = omega (arith, h.places, g.places);
  each = λ k lt.
      let le = g.each k (omega (arith, lt, g.places)) in
      let le' = h.each k (omega (arith, lt, g.places)) in
      omega (arith, ints, le, le');
}

-- ---- places that take one after another

pub none_taken : (slots : Column) (place : ℕ) (found : ℕ → Option Near) → slots ≡ lanes_taken slots place found 0
none_taken slots place found = refl

pub one_more : (slots : Column) (place : ℕ) (found : ℕ → Option Near) (k : ℕ)
    → taken (lanes_taken slots place found k) (place + k) (found k) ≡ lanes_taken slots place found (k + 1)
one_more slots place found k =
    let next : suc k ≡ k + 1 = omega arith in
    ap (lanes_taken slots place found) next
