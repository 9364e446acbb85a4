-- Diagonals of which each is covered once.
use Rattle.std.proofs.Common.{◌≡◌, ℕ, zero, suc, ◌+◌, ◌<◌, ◌≤◌, inl, inr, List, [], ◌∷◌}
use Rattle.std.proofs.Common.{◌++◌, length, get_or, take}
use Rattle.std.proofs.Common.{Bool, true, false, refl, sym, ap, ◌∙◌, arith, subst}
use Rattle.std.specs.Prelude.{◌&&◌, ◌||◌, ◌==◌, nat_lt}
use Rattle.std.proofs.Math.Bool.{not}
use Rattle.std.proofs.Math.ListN.{get_or-append}
use Rattle.std.proofs.Math.Seq.{get_or-append_seam}
use Rattle.std.proofs.lemmas.Bool.{cases_lt}
use Rattle.std.proofs.lemmas.Bool.Decides.{nat_tests}
use Rattle.std.proofs.lemmas.List.{get_or-take, get_or-drop, length-append, length-take, length-drop, take_all}
use Rattle.mp_defs.specs.Window.{excl}
use Rattle.mp_results.specs.Reversal.{numbers}
use Rattle.mp_results.specs.Covering.{by_reversal, is_covered, is_uncovered, uncovered}
use Rattle.mp_anytime.specs.Kept.{AreDistinct}
use Rattle.mp_anytime.proofs.Choosing.{or_second, passing}
use Rattle.mp_anytime.proofs.Stepping.{left_behind}

-- ---- lists

take_front : (xs ys : List ℕ) (k : ℕ) → k ≤ length xs → take k (xs ++ ys) ≡ take k xs
take_front xs ys zero le = refl
take_front [] ys (suc k) le = absurd (omega (arith, le))
take_front (x ∷ xs) ys (suc k) le = ap (λ l. x ∷ l) (take_front xs ys k (omega (arith, le)))

take_less : (xs : List ℕ) (k n : ℕ) → k ≤ n → take k (take n xs) ≡ take k xs
take_less xs zero n le = refl
take_less [] (suc k) zero le = refl
take_less [] (suc k) (suc n) le = refl
take_less (x ∷ xs) (suc k) zero le = absurd (omega (arith, le))
take_less (x ∷ xs) (suc k) (suc n) le = ap (λ l. x ∷ l) (take_less xs k n (omega (arith, le)))

-- ---- covered diagonals

not_among : (covered : List ℕ) (k x q : ℕ) → k ≤ length covered → is_covered (take k covered) x ≡ false
    → q < k
    → get_or covered q 0 ≡ x → ⊥
not_among [] k x q le none lt same = absurd (omega (arith, le, lt))
not_among (y ∷ ys) zero x q le none lt same = absurd (omega (arith, lt))
not_among (y ∷ ys) (suc k) x zero le none lt same = differ y x (is_covered (take k ys) x) none same
  where
    differ : (y x : ℕ) (t : Bool) → ((y == x) || t) ≡ false → y ≡ x → ⊥
    differ y x t e same = grind (arith, nat_tests)
not_among (y ∷ ys) (suc k) x (suc q) le none lt same =
    not_among ys k x q (omega (arith, le)) (or_second (y == x) (is_covered (take k ys) x) none) (omega (arith, lt)) same

pub apart : (covered : List ℕ) (q k : ℕ) → AreDistinct covered → q < k → k < length covered
    → get_or covered q 0 ≡ get_or covered k 0 → ⊥
apart covered q k h lt within same =
    not_among covered k (get_or covered k 0) q (omega (arith, within)) (h.each k within) lt same

-- what holds of each place of a list holds of what is covered
pub each_covered : (P : ℕ → Type 0) (covered : List ℕ)
    → ((k : ℕ) → k < length covered → P (get_or covered k 0))
    → (d : ℕ) → is_covered covered d ≡ true → P d
each_covered P [] h d is = absurd (cc)
each_covered P (y ∷ ys) h d is =
    by_first (y == d) refl (each_covered P ys (λ k lt. h (suc k) (omega (arith, lt))) d)
  where
    same : (y d : ℕ) → (y == d) ≡ true → y ≡ d
    same y d e = grind (arith, nat_tests)

    by_first : (t : Bool) → (y == d) ≡ t → (is_covered ys d ≡ true → P d) → P d
    by_first true e rest = subst P (same y d e) (h 0 (omega arith))
    by_first false e rest = rest (sym (ap (λ t. t || is_covered ys d) e) ∙ is)

pub none_distinct : (covered : List ℕ) → covered ≡ [] → AreDistinct covered
none_distinct covered e = record { each = λ k lt. absurd (omega (arith, lt, ap length e)) }

pub distinct_more : (covered : List ℕ) (d : ℕ) → AreDistinct covered → is_covered covered d ≡ false
    → AreDistinct (covered ++ d ∷ [])
distinct_more covered d h fresh = record { each = at }
  where
    at : (k : ℕ) → k < length (covered ++ d ∷ [])
        → is_covered (take k (covered ++ d ∷ [])) (get_or (covered ++ d ∷ []) k 0) ≡ false
    at k lt = elim (cases_lt k (length covered)) [
      | inl less ↦
          ap (λ l. is_covered l (get_or (covered ++ d ∷ []) k 0))
          (take_front covered (d ∷ []) k (omega (arith, less)))
          ∙ ap (is_covered (take k covered)) (get_or-append covered (d ∷ []) 0 k less)
          ∙ h.each k less
      | inr ge ↦
          let last : length covered ≡ k = omega (arith, ge, lt, length-append covered (d ∷ [])) in
          ap (λ l. is_covered l (get_or (covered ++ d ∷ []) k 0))
          (take_front covered (d ∷ []) k (omega (arith, last)) ∙ take_all k covered (omega (arith, last)))
          ∙ ap (is_covered covered)
          (ap (λ q. get_or (covered ++ d ∷ []) q 0) (sym last) ∙ get_or-append_seam covered d [] 0)
          ∙ fresh
    ]

-- what is chosen isn't covered
pub chosen_fresh : (m w count : ℕ) (covered chosen : List ℕ) → chosen ≡ take count (uncovered m w covered)
    → (q : ℕ) → q < length chosen → is_covered (covered ++ take q chosen) (get_or chosen q 0) ≡ false
chosen_fresh m w count covered chosen e q lt =
    let left = uncovered m w covered in
    let long = length-take count left in
    let few : q < count = omega (arith, lt, ap length e, long) in
    let within : q < length left = omega (arith, lt, ap length e, long) in
    let x = get_or left q 0 in
    let before = covered ++ take q left in
    let behind = left_behind m w q covered in
    let some : 0 < length (uncovered m w before) = omega (arith, ap length behind, length-drop q left, within) in
    let first : get_or (uncovered m w before) 0 0 ≡ x =
    ap (λ (l : List ℕ). get_or l 0 0) behind ∙ get_or-drop q left 0 0 ∙ ap (λ n. get_or left n 0) there in
    ap (λ (l : List ℕ). is_covered (covered ++ l) (get_or chosen q 0))
    (ap (take q) e ∙ take_less left q count (omega (arith, few)))
    ∙ ap (is_covered before) (ap (λ (l : List ℕ). get_or l q 0) e ∙ get_or-take count left q 0 few)
    ∙ open_test (nat_lt (excl m) x && nat_lt x w) (is_covered before x)
    (ap (is_uncovered m w before) (sym first) ∙ passing (is_uncovered m w before) (by_reversal numbers) 0 0 some)
  where
    there : q + 0 ≡ q
    there = omega arith

    open_test : (u s : Bool) → (u && not s) ≡ true → s ≡ false
    open_test u false e = refl
    open_test true true e = absurd (cc)
    open_test false true e = absurd (cc)
