-- How many diagonals aren't covered.
use Rattle.std.proofs.Common.{◌≡◌, ℕ, zero, suc, ◌+◌, ◌-◌, ◌<◌, ◌≤◌, inl, inr, List, []}
use Rattle.std.proofs.Common.{◌∷◌, ◌++◌, length, map, take}
use Rattle.std.proofs.Common.{Bool, true, false, refl, sym, ap, ◌∙◌, arith, subst, length-drop}
use Rattle.std.specs.Prelude.{if◌then◌else◌, ◌&&◌, nat_le, nat_lt, filter}
use Rattle.std.specs.List.{range_with_len}
use Rattle.std.proofs.Math.Bool.{not}
use Rattle.std.proofs.lemmas.Bool.{cases_eq, cases_lt}
use Rattle.std.proofs.lemmas.Bool.Decides.{nat_tests}
use Rattle.std.proofs.lemmas.List.{length-append, length-take}
use Rattle.mp_defs.specs.Window.{excl}
use Rattle.mp_results.specs.Reversal.{reversal, numbers}
use Rattle.mp_results.specs.Covering.{by_reversal, is_covered, is_uncovered, uncovered}
use Rattle.mp_anytime.specs.Waiting.{IsCounted}
use Rattle.mp_anytime.proofs.Digits.{reversal_back, reversal_small}
use Rattle.mp_anytime.proofs.Stepping.{left_behind}

-- how many of the numbers pass whose reversals are n successive ones from a start on
unfoldable passing : (ℕ → Bool) → ℕ → ℕ → ℕ
passing p start n = length (filter p (map reversal (range_with_len start n)))

-- one for a test that is met
abbrev one_if : Bool → ℕ
one_if t = if t then 1 else 0

first_counted : (t : Bool) (x : ℕ) (xs : List ℕ) → length (if t then x ∷ xs else xs) ≡ one_if t + length xs
first_counted true x xs = omega arith
first_counted false x xs = omega arith

passing_none : (p : ℕ → Bool) (start : ℕ) → passing p start 0 ≡ 0
unfolding passing
passing_none p start = refl

-- the first of them, and the others
passing_more : (p : ℕ → Bool) (start n : ℕ)
    → passing p start (suc n) ≡ one_if (p (reversal start)) + passing p (start + 1) n
unfolding passing
passing_more p start n =
    first_counted (p (reversal start)) (reversal start) (filter p (map reversal (range_with_len (start + 1) n)))

-- place r is one of n successive ones from a start on
abbrev is_among : ℕ → ℕ → ℕ → Bool
is_among start n r = nat_le start r && nat_lt r (start + n)

among_first : (start n r : ℕ) → start ≡ r
    → one_if (is_among start (suc n) r) ≡ 1 + one_if (is_among (start + 1) n r)
among_first start n r e = grind (arith, nat_tests)

among_others : (start n r : ℕ) → (start ≡ r → ⊥)
    → one_if (is_among start (suc n) r) ≡ one_if (is_among (start + 1) n r)
among_others start n r ne = grind (arith, nat_tests)

-- another test passes one number more
one_more_passes : (p q : ℕ → Bool) (d start n : ℕ) → d < numbers → start + n ≤ numbers
    → ((x : ℕ) → (x ≡ d → ⊥) → p x ≡ q x) → p d ≡ false → q d ≡ true
    → passing q start n ≡ passing p start n + one_if (is_among start n (reversal d))
one_more_passes p q d start zero small few same fails passes =
    omega (arith, passing_none p start, passing_none q start, none start (reversal d))
  where
    none : (start r : ℕ) → one_if (is_among start 0 r) ≡ 0
    none start r = grind (arith, nat_tests)
one_more_passes p q d start (suc n) small few same fails passes =
    let rest = one_more_passes p q d (start + 1) n small (omega (arith, few)) same fails passes in
    elim (cases_eq start (reversal d)) [
      | inl here ↦
          let is : reversal start ≡ d = ap reversal here ∙ reversal_back d small in
          omega (
            arith,
            passing_more p start n,
            passing_more q start n,
            ap one_if (ap p is ∙ fails),
            ap one_if (ap q is ∙ passes),
            among_first start n (reversal d) here,
            rest,
          )
      | inr other ↦
          let away : reversal start ≡ d → ⊥ =
          λ e. other (sym (reversal_back start (omega (arith, few))) ∙ ap reversal e) in
          omega (
            arith,
            passing_more p start n,
            passing_more q start n,
            ap one_if (same (reversal start) away),
            among_others start n (reversal d) other,
            rest,
          )
    ]

-- tests that agree
alike_pass : (p q : ℕ → Bool) (start n : ℕ) → ((x : ℕ) → p x ≡ q x)
    → passing q start n ≡ passing p start n
alike_pass p q start zero same = omega (arith, passing_none p start, passing_none q start)
alike_pass p q start (suc n) same =
    omega (
      arith,
      passing_more p start n,
      passing_more q start n,
      ap one_if (same (reversal start)),
      alike_pass p q (start + 1) n same,
    )

passing_all : (p : ℕ → Bool) → length (filter p (by_reversal numbers)) ≡ passing p 0 numbers
unfolding by_reversal passing
passing_all p = refl

-- ---- with one window more

before_last : (z x w : ℕ) (t : Bool) → (x ≡ w → ⊥)
    → ((nat_lt z x && nat_lt x w) && t) ≡ ((nat_lt z x && nat_lt x (w + 1)) && t)
before_last z x w t ne = grind (arith, nat_tests)

not_the_last : (z w : ℕ) (t : Bool) → ((nat_lt z w && nat_lt w w) && t) ≡ false
not_the_last z w t = grind (arith, nat_tests)

the_last : (z w : ℕ) (t : Bool) → z < w → t ≡ true → ((nat_lt z w && nat_lt w (w + 1)) && t) ≡ true
the_last z w t lt e = grind (arith, nat_tests)

in_the_zone : (z x w : ℕ) (t : Bool) → w ≤ z
    → ((nat_lt z x && nat_lt x w) && t) ≡ ((nat_lt z x && nat_lt x (w + 1)) && t)
in_the_zone z x w t le = grind (arith, nat_tests)

within_all : (r : ℕ) → r < numbers → one_if (is_among 0 numbers r) ≡ 1
within_all r lt = grind (arith, nat_tests)

pub one_more_left : (m w : ℕ) (covered : List ℕ) → w < numbers → is_covered covered w ≡ false → excl m < w
    → length (uncovered m (w + 1) covered) ≡ length (uncovered m w covered) + 1
one_more_left m w covered small none behind =
    let p = is_uncovered m w covered in
    let q = is_uncovered m (w + 1) covered in
    passing_all q
    ∙ one_more_passes p q w 0 numbers small (omega arith)
    (λ x ne. before_last (excl m) x w (not (is_covered covered x)) ne)
    (not_the_last (excl m) w (not (is_covered covered w)))
    (the_last (excl m) w (not (is_covered covered w)) behind (ap not none))
    ∙ ap (λ k. passing p 0 numbers + k) (within_all (reversal w) (reversal_small w))
    ∙ ap (λ k. k + 1) (sym (passing_all p))

pub none_more_left : (m w : ℕ) (covered : List ℕ) → w ≤ excl m
    → length (uncovered m (w + 1) covered) ≡ length (uncovered m w covered)
none_more_left m w covered near =
    let p = is_uncovered m w covered in
    let q = is_uncovered m (w + 1) covered in
    passing_all q
    ∙ alike_pass p q 0 numbers (λ x. in_the_zone (excl m) x w (not (is_covered covered x)) near)
    ∙ sym (passing_all p)

pub counted_more : (m w : ℕ) (covered : List ℕ) → w < numbers → is_covered covered w ≡ false
    → IsCounted m w covered
    → IsCounted m (w + 1) covered
counted_more m w covered small none h = elim (cases_lt (excl m) w) [
  | inl behind ↦ omega (arith, h, one_more_left m w covered small none behind, behind)
  | inr near ↦ omega (arith, h, none_more_left m w covered near, near)
]

-- ---- none is covered

no_windows : (m : ℕ) (xs : List ℕ) → filter (is_uncovered m 0 []) xs ≡ []
no_windows m [] = refl
no_windows m (x ∷ xs) =
    ap (λ t. if t then x ∷ filter (is_uncovered m 0 []) xs else filter (is_uncovered m 0 []) xs) (fails (excl m) x)
    ∙ no_windows m xs
  where
    fails : (z x : ℕ) → ((nat_lt z x && nat_lt x 0) && true) ≡ false
    fails z x = grind (arith, nat_tests)

pub none_counted : (m w : ℕ) → w ≤ numbers → IsCounted m w []
none_counted m zero few = omega (arith, ap length (no_windows m (by_reversal numbers)))
none_counted m (suc w) few =
    let one : w + 1 ≡ suc w = omega arith in
    subst (λ n. IsCounted m n []) one
    (counted_more m w [] (omega (arith, few)) refl (none_counted m w (omega (arith, few))))

-- ---- some are covered

-- how many are left behind those that are chosen
pub left_of_chosen : (m w count : ℕ) (covered chosen : List ℕ) → chosen ≡ take count (uncovered m w covered)
    → length (uncovered m w (covered ++ chosen)) + length chosen ≡ length (uncovered m w covered)
left_of_chosen m w count covered chosen e =
    let left = uncovered m w covered in
    let rest : length (uncovered m w (covered ++ chosen)) ≡ length left - count =
    ap (λ ds. length (uncovered m w (covered ++ ds))) e ∙ ap length (left_behind m w count covered)
    ∙ length-drop count left in
    omega (arith, rest, ap length e, length-take count left)

pub counted_behind : (m w : ℕ) (covered chosen : List ℕ)
    → length (uncovered m w (covered ++ chosen)) + length chosen ≡ length (uncovered m w covered)
    → IsCounted m w covered → IsCounted m w (covered ++ chosen)
counted_behind m w covered chosen e h = omega (arith, e, h, length-append covered chosen)

-- there are no more than windows
pub few_covered : (m w : ℕ) (covered : List ℕ) → IsCounted m w covered → length covered ≤ w
few_covered m w covered h = omega (arith, h)
