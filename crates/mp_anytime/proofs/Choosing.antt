-- Which diagonals aren't covered, place by place.
use Rattle.std.proofs.Common.{◌≡◌, ℕ, zero, suc, ◌+◌, ◌<◌, ◌≤◌, inl, inr, List, [], ◌∷◌}
use Rattle.std.proofs.Common.{◌++◌, length, get_or, set}
use Rattle.std.proofs.Common.{take, drop, ◌*◌, ◌/◌, ◌%◌, length-drop}
use Rattle.std.proofs.Common.{◌⊎◌, Bool, true, false, refl, sym, ap, ◌∙◌, arith, subst, get_or-set_same}
use Rattle.std.proofs.Common.{get_or-set_other}
use Rattle.std.specs.Prelude.{if◌then◌else◌, ◌&&◌, ◌||◌, ◌==◌, nat_lt, filter, All}
use Rattle.std.proofs.Math.Bool.{not}
use Rattle.std.proofs.lemmas.Bool.{cases_eq}
use Rattle.std.proofs.lemmas.Bool.Decides.{nat_tests}
use Rattle.std.proofs.lemmas.List.{get_or-take, get_or-drop, length-take, length-set, take_all, take-append-le}
use Rattle.std.proofs.lemmas.List.{length-append}
use Rattle.std.proofs.lemmas.Nat.{div-add-mod'}
use Rattle.std.proofs.lemmas.List.Folds.{list_any-append}
use Rattle.std.proofs.lemmas.List.FromFn.{filter_of_map_range_with_len_more}
use Rattle.mp_defs.specs.Window.{excl}
use Rattle.mp_results.specs.Reversal.{reversal, numbers}
use Rattle.mp_results.specs.Covering.{by_reversal, is_covered, is_uncovered, uncovered}
use Rattle.mp_anytime.specs.Kept.{IsDiagonal}
use Rattle.mp_anytime.specs.Waiting.{AreMarks}
use Rattle.mp_anytime.proofs.Digits.{reversal_back}

pub same_test : (x y : ℕ) → x ≡ y → (x == y) ≡ true
same_test x y e = grind (arith, nat_tests)

pub other_test : (x y : ℕ) → (x ≡ y → ⊥) → (x == y) ≡ false
other_test x y ne = grind (arith, nat_tests)

-- ---- one place

pub put_at : (waiting : List Bool) (diagonal at : ℕ) (now : Bool) → at ≡ reversal diagonal → diagonal < numbers
    → length waiting ≡ numbers → at < numbers → (place : ℕ) → place < numbers
    → get_or (set waiting at now) place false
    ≡ (if reversal place == diagonal then now else get_or waiting place false)
put_at waiting diagonal at now e small long lt place within = elim (cases_eq place at) [
  | inl same ↦
      let back : reversal place ≡ diagonal = ap reversal (same ∙ e) ∙ reversal_back diagonal small in
      ap (λ k. get_or (set waiting at now) k false) same
      ∙ get_or-set_same waiting at now false (omega (arith, lt, long))
      ∙ sym (ap (λ t. if t then now else get_or waiting place false) (same_test (reversal place) diagonal back))
  | inr other ↦
      let away : reversal place ≡ diagonal → ⊥ =
      λ back. other (sym (reversal_back place within) ∙ ap reversal back ∙ sym e) in
      get_or-set_other waiting at place now false other
      ∙ sym (ap (λ t. if t then now else get_or waiting place false) (other_test (reversal place) diagonal away))
]

-- ---- blocks of places

pub or_false : (s t : Bool) → (s || t) ≡ false → s ≡ false
or_false true t e = absurd (cc)
or_false false t e = refl

pub or_second : (s t : Bool) → (s || t) ≡ false → t ≡ false
or_second true t e = absurd (cc)
or_second false t e = e

-- a block is marked where one comes to wait in it
pub marks_put : (places marks : List Bool) (at : ℕ) (now : Bool) → AreMarks places marks → at < numbers
    → AreMarks (set places at now) (set marks (at / 512) (now || get_or marks (at / 512) false))
marks_put places marks at now h within = record {
  all = length-set places at now ∙ h.all;
  blocks = length-set marks (at / 512) (now || get_or marks (at / 512) false) ∙ h.blocks;
  each = λ place lt none. elim (cases_eq place at) [
    | inl same ↦
        subst (λ k. get_or (set places at now) k false ≡ false) (sym same)
        (get_or-set_same places at now false (omega (arith, h.all, within))
        ∙ or_false now (get_or marks (at / 512) false)
        (sym (get_or-set_same marks (at / 512) (now || get_or marks (at / 512) false) false
        (omega (arith, h.blocks, block_of at within)))
        ∙ ap (λ k. get_or (set marks (at / 512) (now || get_or marks (at / 512) false)) (k / 512) false) (sym same)
        ∙ none))
    | inr other ↦ get_or-set_other places at place now false other
        ∙ h.each place lt (before place lt none)
  ];
}
  where
    block_of : (at : ℕ) → at < numbers → at / 512 < 512
    block_of at lt = omega (arith, lt)

    before : (place : ℕ) → place < numbers
        → get_or (set marks (at / 512) (now || get_or marks (at / 512) false)) (place / 512) false ≡ false
        → get_or marks (place / 512) false ≡ false
    before place lt none = elim (cases_eq (place / 512) (at / 512)) [
      | inl same ↦
          ap (λ k. get_or marks k false) same
          ∙ or_second now (get_or marks (at / 512) false)
          (sym (get_or-set_same marks (at / 512) (now || get_or marks (at / 512) false) false
          (omega (arith, h.blocks, block_of at within)))
          ∙ ap (λ k. get_or (set marks (at / 512) (now || get_or marks (at / 512) false)) k false) (sym same)
          ∙ none)
      | inr other ↦
          sym (get_or-set_other marks (at / 512) (place / 512) (now || get_or marks (at / 512) false) false other)
          ∙ none
    ]

-- a block is marked anew
pub marked_anew : (places marks : List Bool) (block : ℕ) (is_any : Bool) → AreMarks places marks → block < 512
    → (is_any ≡ false → (k : ℕ) → k < 512 → get_or places (512 * block + k) false ≡ false)
    → AreMarks places (set marks block is_any)
marked_anew places marks block is_any h within none_waits = record {
  all = h.all;
  blocks = length-set marks block is_any ∙ h.blocks;
  each = λ place lt none. elim (cases_eq (place / 512) block) [
    | inl same ↦
        let is : place ≡ 512 * block + place % 512 = omega (arith, same, div-add-mod' place 512) in
        subst (λ k. get_or places k false ≡ false) (sym is)
        (none_waits
        (sym (get_or-set_same marks block is_any false (omega (arith, h.blocks, within)))
        ∙ ap (λ k. get_or (set marks block is_any) k false) (sym same) ∙ none)
        (place % 512) (omega arith))
    | inr other ↦
        h.each place lt (sym (get_or-set_other marks block (place / 512) is_any false other) ∙ none)
  ];
}

-- one more that doesn't wait
pub none_with : (places : List Bool) (n : ℕ) (was now : Bool)
    → (was ≡ false → (k : ℕ) → k < n → get_or places k false ≡ false)
    → now ≡ (was || get_or places n false)
    → now ≡ false → (k : ℕ) → k < n + 1 → get_or places k false ≡ false
none_with places n was now before e none k lt = elim (cases_eq k n) [
  | inl same ↦ ap (λ q. get_or places q false) same ∙ or_second was (get_or places n false) (sym e ∙ none)
  | inr other ↦ before (or_false was (get_or places n false) (sym e ∙ none)) k (omega (arith, lt, other))
]

-- a part of all places
pub part_none : (places : List Bool) (start n : ℕ)
    → ((k : ℕ) → k < length (take n (drop start places))
    → get_or (take n (drop start places)) k false ≡ false)
    → start + n ≤ length places → (k : ℕ) → k < n → get_or places (start + k) false ≡ false
part_none places start n none within k lt =
    sym (get_or-take n (drop start places) k false lt ∙ get_or-drop start places k false)
    ∙ none k (omega (arith, lt, within, length-take n (drop start places), length-drop start places))

pub marked_or_not : (t : Bool) → (t ≡ true) ⊎ (t ≡ false)
marked_or_not true = inl refl
marked_or_not false = inr refl

-- a window more
pub add_at : (m w : ℕ) (covered : List ℕ) (x : ℕ) (old : Bool) → is_covered covered w ≡ false
    → old ≡ is_uncovered m w covered x → (t : Bool) → (x == w) ≡ t
    → (if t then nat_lt (excl m) w else old) ≡ is_uncovered m (w + 1) covered x
add_at m w covered x old none is true e =
    let same : x ≡ w = grind (arith, nat_tests) in
    sym (ap (is_uncovered m (w + 1) covered) same
    ∙ ap (λ t. (nat_lt (excl m) w && nat_lt w (w + 1)) && not t) none
    ∙ ap (λ t. (nat_lt (excl m) w && t) && true) (last_test w) ∙ with_true (nat_lt (excl m) w))
  where
    last_test : (w : ℕ) → nat_lt w (w + 1) ≡ true
    last_test w = grind (arith, nat_tests)

    with_true : (t : Bool) → ((t && true) && true) ≡ t
    with_true true = refl
    with_true false = refl
add_at m w covered x old none is false e =
    is ∙ ap (λ t. (nat_lt (excl m) x && t) && not (is_covered covered x)) (before_test x w e)
  where
    before_test : (x w : ℕ) → (x == w) ≡ false → nat_lt x w ≡ nat_lt x (w + 1)
    before_test x w e = grind (arith, nat_tests)

-- a covered diagonal more
pub covered_more : (covered : List ℕ) (d x : ℕ)
    → is_covered (covered ++ d ∷ []) x ≡ (is_covered covered x || ((d == x) || false))
covered_more covered d x = list_any-append (λ other. other == x) covered (d ∷ [])

pub cover_at : (m w : ℕ) (covered : List ℕ) (d x : ℕ) (old : Bool) → old ≡ is_uncovered m w covered x
    → (t : Bool) → (x == d) ≡ t → (if t then false else old) ≡ is_uncovered m w (covered ++ d ∷ []) x
cover_at m w covered d x old is true e =
    sym (ap (λ t. (nat_lt (excl m) x && nat_lt x w) && not t)
    (covered_more covered d x ∙ ap (λ t. is_covered covered x || (t || false)) (turned_test x d e)
    ∙ or_true (is_covered covered x)) ∙ and_false (nat_lt (excl m) x && nat_lt x w))
  where
    turned_test : (x d : ℕ) → (x == d) ≡ true → (d == x) ≡ true
    turned_test x d e = grind (arith, nat_tests)

    or_true : (t : Bool) → (t || (true || false)) ≡ true
    or_true true = refl
    or_true false = refl

    and_false : (t : Bool) → (t && false) ≡ false
    and_false true = refl
    and_false false = refl
cover_at m w covered d x old is false e =
    is ∙ ap (λ t. (nat_lt (excl m) x && nat_lt x w) && not t)
    (sym (covered_more covered d x ∙ ap (λ t. is_covered covered x || (t || false)) (turned_test x d e)
    ∙ or_false (is_covered covered x)))
  where
    turned_test : (x d : ℕ) → (x == d) ≡ false → (d == x) ≡ false
    turned_test x d e = grind (arith, nat_tests)

    or_false : (t : Bool) → (t || (false || false)) ≡ t
    or_false true = refl
    or_false false = refl

-- ---- the list

pub one_more : (p : ℕ → Bool) (n : ℕ)
    → filter p (by_reversal (n + 1))
    ≡ filter p (by_reversal n) ++ (if p (reversal n) then reversal n ∷ [] else [])
unfolding by_reversal
one_more p n = filter_of_map_range_with_len_more p reversal 0 n n (omega arith)

pub none_yet : (p : ℕ → Bool) → filter p (by_reversal 0) ≡ []
unfolding by_reversal
none_yet p = refl

pub none_chosen : (p : ℕ → Bool) (count : ℕ) → [] ≡ take count (filter p (by_reversal 0))
none_chosen p count = sym (ap (take count) (none_yet p) ∙ nothing count)
  where
    nothing : (count : ℕ) → take {A = ℕ} count [] ≡ []
    nothing zero = refl
    nothing (suc count) = refl

-- what tests say
pub less_of : (x y : ℕ) → nat_lt x y ≡ true → x < y
less_of x y e = grind (arith, nat_tests)

pub not_less_of : (x y : ℕ) → nat_lt x y ≡ false → y ≤ x
not_less_of x y e = grind (arith, nat_tests)

pub first_true : (s t : Bool) → (s && t) ≡ true → s ≡ true
first_true true t e = refl
first_true false t e = absurd (cc)

pub second_true : (s t : Bool) → (s && t) ≡ true → t ≡ true
second_true true t e = e
second_true false t e = absurd (cc)

pub second_false : (s t : Bool) → (s && t) ≡ false → s ≡ true → t ≡ false
second_false true t e f = e
second_false false t e f = absurd (cc)

-- one more is chosen
pub chosen_more : (p : ℕ → Bool) (n count : ℕ) (chosen : List ℕ)
    → chosen ≡ take count (filter p (by_reversal n))
    → p (reversal n) ≡ true → length chosen < count
    → chosen ++ reversal n ∷ [] ≡ take count (filter p (by_reversal (n + 1)))
chosen_more p n count chosen e passes lt =
    let before = filter p (by_reversal n) in
    let all : chosen ≡ before = e ∙ all_taken count before (subst (λ xs. length xs < count) e lt) in
    ap (λ xs. xs ++ reversal n ∷ []) all
    ∙ sym (take_all count (before ++ reversal n ∷ [])
    (omega (arith, length-append before (reversal n ∷ []), ap length all, lt)))
    ∙ ap (take count) (sym (one_more p n ∙ ap (λ t. before ++ (if t then reversal n ∷ [] else [])) passes))
  where
    all_taken : (count : ℕ) (xs : List ℕ) → length (take count xs) < count → take count xs ≡ xs
    all_taken zero xs h = absurd (omega (arith, h))
    all_taken (suc count) [] h = refl
    all_taken (suc count) (x ∷ xs) h = ap (λ ys. x ∷ ys) (all_taken count xs (omega (arith, h)))

-- no more are chosen
pub chosen_same : (p : ℕ → Bool) (n count : ℕ) (chosen : List ℕ)
    → chosen ≡ take count (filter p (by_reversal n))
    → (t : Bool) → p (reversal n) ≡ t → (t ≡ true → count ≤ length chosen)
    → chosen ≡ take count (filter p (by_reversal (n + 1)))
chosen_same p n count chosen e true passes full =
    let before = filter p (by_reversal n) in
    e ∙ sym (ap (take count) (one_more p n)
    ∙ take-append-le count before (if p (reversal n) then reversal n ∷ [] else [])
    (taken_long count before (subst (λ xs. count ≤ length xs) e (full refl))))
  where
    taken_long : (count : ℕ) (xs : List ℕ) → count ≤ length (take count xs) → count ≤ length xs
    taken_long zero xs h = omega arith
    taken_long (suc count) [] h = h
    taken_long (suc count) (x ∷ xs) h =
        let rest = taken_long count xs (omega (arith, h)) in omega (arith, rest)
chosen_same p n count chosen e false fails full =
    e ∙ ap (take count) (sym (one_more p n
    ∙ ap (λ t. filter p (by_reversal n) ++ (if t then reversal n ∷ [] else [])) fails
    ∙ append_none (filter p (by_reversal n))))
  where
    append_none : (xs : List ℕ) → xs ++ [] ≡ xs
    append_none [] = refl
    append_none (x ∷ xs) = ap (λ ys. x ∷ ys) (append_none xs)

-- those that are chosen pass the test
pub passing : (p : ℕ → Bool) (xs : List ℕ) → All (λ x. p x ≡ true) (filter p xs)
passing p [] = λ k d lt. absurd (omega (arith, lt))
passing p (x ∷ xs) = by_first (p x) refl (passing p xs)
  where
    by_first : (t : Bool) → p x ≡ t → All (λ x. p x ≡ true) (filter p xs)
        → All (λ x. p x ≡ true) (if t then x ∷ filter p xs else filter p xs)
    by_first true e all zero d lt = e
    by_first true e all (suc k) d lt = all k d (omega (arith, lt))
    by_first false e all k d lt = all k d lt

lies : (m w x : ℕ) (t : Bool) → ((nat_lt (excl m) x && nat_lt x w) && t) ≡ true → IsDiagonal m w x
lies m w x t e =
    let both = first_true (nat_lt (excl m) x && nat_lt x w) t e in (
      less_of (excl m) x (first_true (nat_lt (excl m) x) (nat_lt x w) both),
      less_of x w (second_true (nat_lt (excl m) x) (nat_lt x w) both),
    )

pub chosen_lie : (m w count : ℕ) (covered chosen : List ℕ) → chosen ≡ take count (uncovered m w covered)
    → All (IsDiagonal m w) chosen
chosen_lie m w count covered chosen e = subst (All (IsDiagonal m w)) (sym e) taken
  where
    taken : All (IsDiagonal m w) (take count (uncovered m w covered))
    taken k d lt =
        let few : k < count = omega (arith, lt, length-take count (uncovered m w covered)) in
        let within : k < length (uncovered m w covered) =
        omega (arith, lt, length-take count (uncovered m w covered)) in
        subst (IsDiagonal m w) (sym (get_or-take count (uncovered m w covered) k d few))
        (lies m w (get_or (uncovered m w covered) k d) (not (is_covered covered (get_or (uncovered m w covered) k d)))
        (passing (is_uncovered m w covered) (by_reversal numbers) k d within))

-- nothing more is chosen from successive places of which none waits, or where enough are chosen
pub chosen_on : (p : ℕ → Bool) (start n count : ℕ) (chosen : List ℕ)
    → chosen ≡ take count (filter p (by_reversal start))
    → ((k : ℕ) → k < n → p (reversal (start + k)) ≡ true → count ≤ length chosen)
    → chosen ≡ take count (filter p (by_reversal (start + n)))
chosen_on p start zero count chosen e full =
    let same : start ≡ start + 0 = omega arith in
    subst (λ q. chosen ≡ take count (filter p (by_reversal q))) same e
chosen_on p start (suc n) count chosen e full =
    let more : start + n + 1 ≡ start + suc n = omega arith in
    subst (λ q. chosen ≡ take count (filter p (by_reversal q))) more
    (chosen_same p (start + n) count chosen
    (chosen_on p start n count chosen e (λ k lt. full k (omega (arith, lt))))
    (p (reversal (start + n))) refl (full n (omega arith)))
