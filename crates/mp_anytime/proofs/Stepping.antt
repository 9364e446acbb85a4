-- The diagonals are covered one by one, each time the one with the least reversal.
use Rattle.std.proofs.Common.{◌≡◌, ℕ, zero, suc, ◌+◌, ◌<◌, ◌≤◌, inl, inr, List, [], ◌∷◌}
use Rattle.std.proofs.Common.{◌++◌, map, take, drop}
use Rattle.std.proofs.Common.{Bool, true, false, refl, sym, ap, ◌∙◌, arith, subst, append_assoc}
use Rattle.std.specs.Prelude.{if◌then◌else◌, ◌&&◌, ◌||◌, ◌==◌, nat_lt, filter}
use Rattle.std.specs.List.{range_with_len}
use Rattle.std.proofs.Math.Bool.{not}
use Rattle.std.proofs.lemmas.Bool.{cases_eq}
use Rattle.std.proofs.lemmas.Bool.Decides.{nat_tests}
use Rattle.std.proofs.lemmas.List.Folds.{list_any-append}
use Rattle.mp_defs.specs.Window.{excl}
use Rattle.mp_results.specs.Reversal.{reversal, numbers}
use Rattle.mp_results.specs.Covering.{advanced, by_reversal, is_covered, is_uncovered, uncovered}
use Rattle.mp_anytime.specs.Laws.{CoversTheNext, IsNext}
use Rattle.mp_anytime.proofs.Digits.{reversal_back, reversal_small}

-- the numbers whose reversals lie from a start on
abbrev reversals : ℕ → ℕ → List ℕ
reversals start n = map reversal (range_with_len start n)

-- what passes a test and isn't among others
abbrev passes_besides : (ℕ → Bool) → List ℕ → ℕ → Bool
passes_besides p others x = p x && not (is_covered others x)

-- ---- the list after a step

heads : (s t : Bool) (x : ℕ) (xs ys : List ℕ) → s ≡ t → xs ≡ ys
    → ◌≡◌ {A = List ℕ} (if s then x ∷ xs else xs) (if t then x ∷ ys else ys)
heads s t x xs ys e f = cc

same_filter : (p q : ℕ → Bool) (start n : ℕ)
    → ((place : ℕ) → start ≤ place → place < start + n → p (reversal place) ≡ q (reversal place))
    → filter p (reversals start n) ≡ filter q (reversals start n)
same_filter p q start zero h = refl
same_filter p q start (suc n) h =
    heads (p (reversal start)) (q (reversal start)) (reversal start) _ _ (h start (omega arith) (omega arith))
    (same_filter p q (start + 1) n (λ place le lt. h place (omega (arith, le)) (omega (arith, lt))))

other_reversal : (x y : ℕ) → x < numbers → y < numbers → (x ≡ y → ⊥)
    → (reversal x == reversal y) ≡ false
other_reversal x y lt lt' other =
    other_test (reversal x) (reversal y)
    (λ e. other (sym (reversal_back x lt) ∙ ap reversal e ∙ reversal_back y lt'))
  where
    other_test : (x y : ℕ) → (x ≡ y → ⊥) → (x == y) ≡ false
    other_test x y ne = grind (arith, nat_tests)

none_dropped : (k : ℕ) → drop {A = ℕ} k [] ≡ []
none_dropped zero = refl
none_dropped (suc k) = refl

besides_first : (t : Bool) (p : Bool) → ((p && not (true || t))) ≡ false
besides_first t true = refl
besides_first t false = refl

own_test : (x : ℕ) → (x == x) ≡ true
own_test x = grind (arith, nat_tests)

and_true : (t : Bool) → (t && true) ≡ t
and_true true = refl
and_true false = refl

none_passes_besides : (p : ℕ → Bool) (first : ℕ) (rest taken : List ℕ) → p first ≡ false
    → filter (passes_besides p taken) (first ∷ rest) ≡ filter (passes_besides p taken) rest
none_passes_besides p first rest taken fails =
    ap (λ t. if t && not (is_covered taken first) then first ∷ filter (passes_besides p taken) rest
    else filter (passes_besides p taken) rest) fails

first_is_taken : (p : ℕ → Bool) (first : ℕ) (rest taken : List ℕ)
    → filter (passes_besides p (first ∷ taken)) (first ∷ rest)
    ≡ filter (passes_besides p (first ∷ taken)) rest
first_is_taken p first rest taken =
    ap (λ t. if t then first ∷ filter (passes_besides p (first ∷ taken)) rest
    else filter (passes_besides p (first ∷ taken)) rest)
    (ap (λ t. p first && not (t || is_covered taken first)) (own_test first)
    ∙ besides_first (is_covered taken first) (p first))

rest_of_failing : (p : ℕ → Bool) (k first : ℕ) (rest : List ℕ) → p first ≡ false
    → filter (passes_besides p (take k (filter p rest))) rest ≡ drop k (filter p rest)
    → filter (passes_besides p (take k (filter p (first ∷ rest)))) (first ∷ rest)
    ≡ drop k (filter p (first ∷ rest))
rest_of_failing p k first rest fails h =
    subst (λ (kept : List ℕ). filter (passes_besides p (take k kept)) (first ∷ rest) ≡ drop k kept)
    (sym (ap (λ t. if t then first ∷ filter p rest else filter p rest) fails))
    (none_passes_besides p first rest (take k (filter p rest)) fails ∙ h)

rest_of_passing : (p : ℕ → Bool) (k first : ℕ) (rest : List ℕ) → p first ≡ true
    → filter (passes_besides p (first ∷ take k (filter p rest))) rest ≡ drop k (filter p rest)
    → filter (passes_besides p (take (suc k) (filter p (first ∷ rest)))) (first ∷ rest)
    ≡ drop (suc k) (filter p (first ∷ rest))
rest_of_passing p k first rest passes h =
    subst (λ (kept : List ℕ). filter (passes_besides p (take (suc k) kept)) (first ∷ rest) ≡ drop (suc k) kept)
    (sym (ap (λ t. if t then first ∷ filter p rest else filter p rest) passes))
    (first_is_taken p first rest (take k (filter p rest)) ∙ h)

-- without the first ones that pass, those behind them pass
rest_passes : (p : ℕ → Bool) (k start n : ℕ) → start + n ≤ numbers
    → filter (passes_besides p (take k (filter p (reversals start n)))) (reversals start n)
    ≡ drop k (filter p (reversals start n))
rest_passes p k start zero few = sym (none_dropped k)
rest_passes p k start (suc n) few =
    by_first k (p (reversal start)) refl (λ count. rest_passes p count (start + 1) n (omega (arith, few)))
  where
    by_first : (k : ℕ) (t : Bool) → p (reversal start) ≡ t
        → ((count : ℕ) → filter (passes_besides p (take count (filter p (reversals (start + 1) n))))
        (reversals (start + 1) n)
        ≡ drop count (filter p (reversals (start + 1) n)))
        → filter (passes_besides p (take k (filter p (reversal start ∷ reversals (start + 1) n))))
        (reversal start ∷ reversals (start + 1) n)
        ≡ drop k (filter p (reversal start ∷ reversals (start + 1) n))
    by_first k false fails rest =
        rest_of_failing p k (reversal start) (reversals (start + 1) n) fails (rest k)
    by_first zero true passes rest =
        same_filter (passes_besides p []) p start (suc n) (λ place _ _. and_true (p (reversal place)))
    by_first (suc k) true passes rest =
        let taken = take k (filter p (reversals (start + 1) n)) in
        rest_of_passing p k (reversal start) (reversals (start + 1) n) passes
        (same_filter (passes_besides p (reversal start ∷ taken)) (passes_besides p taken) (start + 1) n
        (λ place le lt. ap (λ t. p (reversal place) && not (t || is_covered taken (reversal place)))
        (other_reversal start place (omega (arith, few)) (omega (arith, few, lt)) (λ e. omega (arith, le, e))))
        ∙ rest k)

-- ---- numbers below an end

none_passes : (p : ℕ → Bool) (xs : List ℕ) → ((x : ℕ) → p x ≡ false) → filter p xs ≡ []
none_passes p [] h = refl
none_passes p (x ∷ xs) h =
    ap (λ t. if t then x ∷ filter p xs else filter p xs) (h x) ∙ none_passes p xs h

first_passes : (p : ℕ → Bool) (place start n : ℕ) → start ≤ place → place < start + n
    → p (reversal place) ≡ true → ((other : ℕ) → other < place → p (reversal other) ≡ false)
    → take 1 (filter p (reversals start n)) ≡ reversal place ∷ []
first_passes p place start zero le lt passes before = absurd (omega arith)
first_passes p place start (suc n) le lt passes before = elim (cases_eq start place) [
  | inl same ↦
      ap (λ t. take 1 (if t then reversal start ∷ filter p (reversals (start + 1) n)
      else filter p (reversals (start + 1) n))) (ap (λ k. p (reversal k)) same ∙ passes)
      ∙ ap (λ k. reversal k ∷ []) same
  | inr other ↦
      ap (λ t. take 1 (if t then reversal start ∷ filter p (reversals (start + 1) n)
      else filter p (reversals (start + 1) n))) (before start (omega (arith, le, other)))
      ∙ first_passes p place (start + 1) n (omega (arith, le, other)) (omega (arith, lt)) passes before
]

pub first_below : (p : ℕ → Bool) (place n : ℕ) → place < n → p (reversal place) ≡ true
    → ((other : ℕ) → other < place → p (reversal other) ≡ false)
    → take 1 (filter p (by_reversal n)) ≡ reversal place ∷ []
unfolding by_reversal
first_below p place n lt passes before = first_passes p place 0 n (omega arith) (omega (arith, lt)) passes before

pub rest_below : (p : ℕ → Bool) (k n : ℕ) → n ≤ numbers
    → filter (passes_besides p (take k (filter p (by_reversal n)))) (by_reversal n)
    ≡ drop k (filter p (by_reversal n))
unfolding by_reversal
rest_below p k n few = rest_passes p k 0 n (omega (arith, few))

-- ---- steps

same_tests : (p q : ℕ → Bool) (xs : List ℕ) → ((x : ℕ) → p x ≡ q x) → filter p xs ≡ filter q xs
same_tests p q [] h = refl
same_tests p q (x ∷ xs) h = heads (p x) (q x) x _ _ (h x) (same_tests p q xs h)

besides_both : (s t u : Bool) → (s && not (t || u)) ≡ ((s && not t) && not u)
besides_both true true u = refl
besides_both true false u = refl
besides_both false t u = refl

uncovered_besides : (m w : ℕ) (covered taken : List ℕ) (x : ℕ)
    → is_uncovered m w (covered ++ taken) x ≡ passes_besides (is_uncovered m w covered) taken x
uncovered_besides m w covered taken x =
    ap (λ t. (nat_lt (excl m) x && nat_lt x w) && not t) (list_any-append (λ other. other == x) covered taken)
    ∙ besides_both (nat_lt (excl m) x && nat_lt x w) (is_covered covered x) (is_covered taken x)

-- what is left behind k steps
pub left_behind : (m w k : ℕ) (covered : List ℕ)
    → uncovered m w (covered ++ take k (uncovered m w covered)) ≡ drop k (uncovered m w covered)
left_behind m w k covered =
    let taken = take k (uncovered m w covered) in
    same_tests (is_uncovered m w (covered ++ taken)) (passes_besides (is_uncovered m w covered) taken)
    (by_reversal numbers) (uncovered_besides m w covered taken)
    ∙ rest_below (is_uncovered m w covered) k numbers (omega arith)

one_more_taken : (k : ℕ) (xs : List ℕ) → take k xs ++ take 1 (drop k xs) ≡ take (suc k) xs
one_more_taken zero xs = refl
one_more_taken (suc k) [] = refl
one_more_taken (suc k) (x ∷ xs) = ap (λ ys. x ∷ ys) (one_more_taken k xs)

none_more : (xs : List ℕ) → xs ++ [] ≡ xs
none_more [] = refl
none_more (x ∷ xs) = ap (λ ys. x ∷ ys) (none_more xs)

one_step_more : (m w k : ℕ) (covered : List ℕ)
    → advanced m w (k + 1) covered ≡ advanced m w 1 (advanced m w k covered)
one_step_more m w k covered =
    let left = uncovered m w covered in
    let one : k + 1 ≡ suc k = omega arith in
    ap (λ n. covered ++ take n left) one
    ∙ ap (λ xs. covered ++ xs) (sym (one_more_taken k left))
    ∙ sym (append_assoc covered (take k left) (take 1 (drop k left)))
    ∙ ap (λ xs. (covered ++ take k left) ++ take 1 xs) (sym (left_behind m w k covered))

is_window : (s t u : Bool) → ((s && t) && u) ≡ true → t ≡ true
is_window true true u e = refl
is_window true false u e = absurd (cc)
is_window false t u e = absurd (cc)

below_windows : (x w : ℕ) → nat_lt x w ≡ true → x < w
below_windows x w e = grind (arith, nat_tests)

next_covered : (m w diagonal : ℕ) (covered : List ℕ) → w ≤ numbers → IsNext m w covered diagonal
    → advanced m w 1 covered ≡ covered ++ diagonal ∷ []
next_covered m w diagonal covered few next =
    let p = is_uncovered m w covered in
    let small : diagonal < w = below_windows diagonal w
    (is_window (nat_lt (excl m) diagonal) (nat_lt diagonal w) (not (is_covered covered diagonal)) next.uncovered) in
    let back : reversal (reversal diagonal) ≡ diagonal = reversal_back diagonal (omega (arith, small, few)) in
    ap (λ xs. covered ++ xs)
    (first_below p (reversal diagonal) numbers (reversal_small diagonal) (ap p back ∙ next.uncovered)
    (λ other lt. before other lt (is_uncovered m w covered (reversal other)) refl)
    ∙ ap (λ d. d ∷ []) back)
  where
    before : (other : ℕ) → other < reversal diagonal → (t : Bool)
        → is_uncovered m w covered (reversal other) ≡ t
        → is_uncovered m w covered (reversal other) ≡ false
    before other lt false fails = fails
    before other lt true passes = absurd (omega (
      arith,
      lt,
      next.least (reversal other) passes,
      reversal_back other (omega (arith, lt, reversal_small diagonal)),
    ))

pub covers_the_next : CoversTheNext
covers_the_next = record {
  none = λ m w covered. none_more covered;
  one_more = λ m w k covered few. one_step_more m w k covered;
  next = next_covered;
  none_left = λ m w covered none.
      ap (λ xs. covered ++ take 1 xs) (none_passes (is_uncovered m w covered) (by_reversal numbers) none)
      ∙ none_more covered;
}
