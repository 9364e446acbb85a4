-- Rounded samples in parts of their list, and the cores of blocks.
use Rattle.std.proofs.Common.{◌≡◌, ◌≢◌, ℕ, ◌+◌, ◌-◌, ◌%◌, ◌^◌, ◌<◌, ◌≤◌, min, inl, inr, List, length, take, drop, set}
use Rattle.std.proofs.Common.{refl, sym, ap, ◌∙◌, arith, ◌*ℤ◌, to_z, of_z, FitsSigned, ◌+ℤ◌, ◌-ℤ◌}
use Rattle.std.proofs.Common.{subst, length-drop, ℤ, pos, w32}
use Rattle.std.specs.Prelude.{negsuc}
use Rattle.std.specs.Int.{int_wrap}
use Rattle.std.proofs.lemmas.Bool.{cases_eq, cases_lt}
use Rattle.std.proofs.lemmas.Bool.Decides.{nat_tests}
use Rattle.std.proofs.lemmas.Int.{ints, int_wrap-add_left, int_wrap-add_right, to_z-of_z, wrapping_add-bits}
use Rattle.std.proofs.lemmas.Int.{wrapping_sub_is}
use Rattle.std.proofs.lemmas.List.{get_or-take, get_or-drop, get_or-set_same, get_or-set_other, length-take}
use Rattle.std.proofs.lemmas.Nat.{mod_below}
use Rattle.mp_defs.specs.Series.{Series}
use Rattle.mp_sums.specs.Sums.{square_sum}
use Rattle.mp_sums.specs.Residues.{AreChanges, AreNumbers, IsChange, item, moved, residue}
use Rattle.mp_sums.specs.ResidueLaws.{residues_move_on}
use Rattle.mp_sums.specs.SumLaws.{first_of_all, sum_joined, sum_of_none}
use Rattle.mp_anytime.specs.Rounded.{core_sum, rounded_in, rounded_sum}

-- some successive numbers of a list
pub part_numbers : (x : ℕ → ℤ) (start n : ℕ) (numbers : List ℤ) → AreNumbers x 0 numbers
    → start + n ≤ length numbers
    → AreNumbers x start (take n (drop start numbers))
part_numbers x start n numbers h within = record {
  each = λ k lt.
      let long : k < n =
      omega (arith, lt, within, length-take n (drop start numbers), length-drop start numbers) in
      get_or-take n (drop start numbers) k (pos 0) long ∙ get_or-drop start numbers k (pos 0)
      ∙ h.each (start + k) (omega (arith, long, within)) ∙ ap (λ q. int_wrap w32 (x q)) (omega arith);
}

-- the first ones
pub first_numbers : (x : ℕ → ℤ) (n : ℕ) (numbers : List ℤ) → AreNumbers x 0 numbers → n ≤ length numbers
    → AreNumbers x 0 (take n numbers)
first_numbers x n numbers h within = record {
  each = λ k lt.
      let long : k < n = omega (arith, lt, within, length-take n numbers) in
      get_or-take n numbers k (pos 0) long ∙ h.each k (omega (arith, long, within));
}

pub part_long : (start n : ℕ) (numbers : List ℤ) → start + n ≤ length numbers
    → length (take n (drop start numbers)) ≡ n
part_long start n numbers within = omega (arith, within, length-take n (drop start numbers), length-drop start numbers)

-- the residue of as many numbers, where the number is given
pub residue_at : (n n' : ℕ) (x : ℕ → ℤ) (i i' j j' : ℕ) → n ≡ n' → i ≡ i' → j ≡ j'
    → residue (square_sum n x i x j) ≡ residue (square_sum n' x i' x j')
residue_at n n' x i i' j j' e f g =
    ap (λ q. residue (square_sum q x i x j)) e ∙ ap (λ q. residue (square_sum n' x q x j)) f
    ∙ ap (λ q. residue (square_sum n' x i' x q)) g

-- the change of a window in a list of all
change_at : (m place : ℕ) (x : ℕ → ℤ) (differences sums : List ℤ) → AreChanges m x 0 differences sums
    → place < length differences → IsChange m x place (item differences place) (item sums place)
change_at m place x differences sums h lt =
    let same : 0 + place ≡ place = omega arith in
    subst (λ q. IsChange m x q (item differences place) (item sums place)) same (h.each place lt)

-- a row and a column move on
pub moves_on : (m i j : ℕ) (x : ℕ → ℤ) (differences sums : List ℤ) (r e s e' s' next : ℤ)
    → AreChanges m x 0 differences sums
    → i < length differences → j < length differences → r ≡ residue (square_sum m x i x j)
    → e ≡ item differences i → s ≡ item sums i → e' ≡ item differences j → s' ≡ item sums j
    → next ≡ moved r e s e' s' → next ≡ residue (square_sum m x (i + 1) x (j + 1))
moves_on m i j x differences sums r e s e' s' next h lt lt' is e_is s_is e_is' s_is' next_is =
    let first : ℤ = item differences i in
    let second : ℤ = item sums i in
    let third : ℤ = item differences j in
    next_is ∙ ap (λ z. moved z e s e' s') is
    ∙ ap (λ z. moved (residue (square_sum m x i x j)) z s e' s') e_is
    ∙ ap (λ z. moved (residue (square_sum m x i x j)) first z e' s') s_is
    ∙ ap (λ z. moved (residue (square_sum m x i x j)) first second z s') e_is'
    ∙ ap (moved (residue (square_sum m x i x j)) first second third) s_is'
    ∙ residues_move_on m x i x j first second third (item sums j)
    (change_at m i x differences sums h lt) (change_at m j x differences sums h lt')

-- each pair of a block has its core
pub core_within : (m shift : ℕ) (a : Series) (i j k : ℕ) → k < 32
    → core_sum m shift a i j ≤ rounded_sum m shift a (i + k) (j + k)
core_within m shift a i j k lt = elim (cases_lt m 31) [
  | inl short ↦ none (m - 31) (omega (arith, short))
  | inr long ↦
      let x = rounded_in shift a in
      let n = m - 31 in
      let whole : 31 - k + (n + k) ≡ m = omega (arith, long, lt) in
      let row : i + k + (31 - k) ≡ i + 31 = omega (arith, lt) in
      let column : j + k + (31 - k) ≡ j + 31 = omega (arith, lt) in
      subst (λ q. core_sum m shift a i j ≤ square_sum q x (i + k) x (j + k)) whole
      (behind (square_sum (31 - k) x (i + k) x (j + k)) _ _ _ (sum_joined (31 - k) (n + k) x (i + k) x (j + k))
      (subst (λ q. core_sum m shift a i j ≤ square_sum (n + k) x q x (j + k + (31 - k))) (sym row)
      (subst (λ q. core_sum m shift a i j ≤ square_sum (n + k) x (i + 31) x q) (sym column)
      (first_of_all n (n + k) x (i + 31) x (j + 31) (omega arith)))))
]
  where
    none : (n : ℕ) → n ≡ 0
        → square_sum n (rounded_in shift a) (i + 31) (rounded_in shift a) (j + 31) ≤ rounded_sum m shift a (i + k)
        (j + k)
    none n e =
        subst (λ q. square_sum q (rounded_in shift a) (i + 31) (rounded_in shift a) (j + 31)
        ≤ rounded_sum m shift a (i + k) (j + k)) (sym e)
        (subst (λ q. q ≤ rounded_sum m shift a (i + k) (j + k))
        (sym (sum_of_none (rounded_in shift a) (i + 31) (rounded_in shift a) (j + 31))) (omega arith))

    behind : (first rest whole core : ℕ) → whole ≡ first + rest → core ≤ rest → core ≤ whole
    behind first rest whole core e le = omega (arith, e, le)

-- ---- successive residues

-- one place more of a list is so
pub each_next : (P : ℕ → ℤ → Type 0) (v : List ℤ) (at : ℕ) (n : ℤ) → at < length v
    → ((q : ℕ) → q < at → P q (item v q)) → P at n → (q : ℕ) → q < at + 1 → P q (item (set v at n) q)
each_next P v at n lt done is q small = elim (cases_eq q at) [
  | inl same ↦
      subst (λ z. P z (item (set v at n) z)) (sym same) (subst (P at) (sym (get_or-set_same v at n (pos 0) lt)) is)
  | inr other ↦ subst (P q) (sym (get_or-set_other v at q n (pos 0) other)) (done q (below at q small other))
]
  where
    below : (at q : ℕ) → q < at + 1 → q ≢ at → q < at
    below at q lt ne = grind (arith, nat_tests)

-- the same where it is as a sequence says
pub set_next : (v : List ℤ) (at : ℕ) (n : ℤ) (f : ℕ → ℤ) → at < length v → ((q : ℕ) → q < at → item v q ≡ f q)
    → n ≡ f at → (q : ℕ) → q < at + 1 → item (set v at n) q ≡ f q
set_next v at n f lt done is q small = each_next (λ p z. z ≡ f p) v at n lt done is q small

bits_fit : (z : ℤ) → FitsSigned w32 z → of_z w32 z < 2 ^ 32
bits_fit z f = omega (arith, ints, f)

-- the residue of two sums together
pub residues_together : (r s : ℤ) (a b c : ℕ) → FitsSigned w32 r → FitsSigned w32 s → r ≡ residue a → s ≡ residue b
    → c ≡ a + b → to_z w32 ((of_z w32 r + (of_z w32 s + 2147483647) % 2 ^ 32) % 2 ^ 32) ≡ residue c
residues_together r s a b c fr fs r_is s_is c_is =
    let zero_is : ℤ = negsuc 2147483646 in
    let q : ℕ = (of_z w32 s + 2147483647) % 2 ^ 32 in
    wrapping_add-bits w32 (of_z w32 r) q (bits_fit r fr) (mod_below (of_z w32 s + 2147483647) (2 ^ 32) (omega arith))
    ∙ ap (λ z. int_wrap w32 (z +ℤ to_z w32 q)) (to_z-of_z w32 r fr)
    ∙ ap (λ z. int_wrap w32 (r +ℤ z)) (wrapping_sub_is w32 s zero_is fs (omega (arith, ints)))
    ∙ int_wrap-add_right w32 r (s -ℤ zero_is)
    ∙ ap (λ z. int_wrap w32 (z +ℤ (s -ℤ zero_is))) r_is
    ∙ int_wrap-add_left w32 (pos a -ℤ pos 2147483647) (s -ℤ zero_is)
    ∙ ap (λ z. int_wrap w32 ((pos a -ℤ pos 2147483647) +ℤ (z -ℤ zero_is))) s_is
    ∙ ap (int_wrap w32) (apart a (residue b))
    ∙ int_wrap-add_right w32 (pos a) (pos b -ℤ pos 2147483647)
    ∙ ap (int_wrap w32) (whole a b c c_is)
  where
    apart : (x : ℕ) (y : ℤ) → (pos x -ℤ pos 2147483647) +ℤ (y -ℤ negsuc 2147483646) ≡ pos x +ℤ y
    apart x y = omega (arith, ints)

    whole : (a b c : ℕ) → c ≡ a + b → pos a +ℤ (pos b -ℤ pos 2147483647) ≡ pos c -ℤ pos 2147483647
    whole a b c e = omega (arith, ints, e)

-- a window's first samples, and its core behind them
pub sum_with_core : (m shift : ℕ) (a : Series) (i j n : ℕ) → n ≡ min m 31
    → rounded_sum m shift a i j
    ≡ square_sum n (rounded_in shift a) i (rounded_in shift a) j + core_sum m shift a i j
sum_with_core m shift a i j n e = elim (cases_lt m 31) [
  | inl short ↦
      let x = rounded_in shift a in
      let all : n ≡ m = omega (arith, e, short) in
      let none : m - 31 ≡ 0 = omega (arith, short) in
      ap (λ q. square_sum q x i x j) (sym all)
      ∙ omega (arith, ap (λ q. square_sum q x (i + 31) x (j + 31)) none, sum_of_none x (i + 31) x (j + 31))
  | inr long ↦
      let x = rounded_in shift a in
      let first : n ≡ 31 = omega (arith, e, long) in
      let whole : m ≡ 31 + (m - 31) = omega (arith, long) in
      ap (λ q. square_sum q x i x j) whole ∙ sum_joined 31 (m - 31) x i x j
      ∙ ap (λ q. square_sum q x i x j + core_sum m shift a i j) (sym first)
]

pub behind : (k q : ℕ) → k + 1 ≤ q → q ≢ k
behind k q le = grind (arith, nat_tests)

pub none_before : (z : ℤ) → pos 0 +ℤ z ≡ z
none_before z = omega (arith, ints)

-- a change by other names
pub moved_same : (r e e_is s s_is e' e'_is s' s'_is : ℤ) → e ≡ e_is → s ≡ s_is → e' ≡ e'_is → s' ≡ s'_is
    → moved r e s e' s' ≡ moved r e_is s_is e'_is s'_is
moved_same r e e_is s s_is e' e'_is s' s'_is f g f' g' = cc

-- the residue of a row and a column, by the step from the ones before
pub step_on : (m row offset q : ℕ) (x : ℕ → ℤ) (differences sums : List ℤ) (e s e' s' step : ℤ)
    → AreChanges m x 0 differences sums → row + q < length differences → row + offset + q < length differences
    → e ≡ item differences (row + q) → s ≡ item sums (row + q) → e' ≡ item differences (row + offset + q)
    → s' ≡ item sums (row + offset + q) → step ≡ moved (pos 0) e s e' s'
    → int_wrap w32 (residue (square_sum m x (row + q) x (row + q + offset)) +ℤ step)
    ≡ residue (square_sum m x (row + (q + 1)) x (row + (q + 1) + offset))
step_on m row offset q x differences sums e s e' s' step h lt lt' e_is s_is e_is' s_is' step_is =
    let r = residue (square_sum m x (row + q) x (row + q + offset)) in
    let product = (e -ℤ e') *ℤ (s -ℤ s') in
    ap (λ z. int_wrap w32 (r +ℤ z)) step_is ∙ int_wrap-add_right w32 r (pos 0 +ℤ product)
    ∙ ap (λ z. int_wrap w32 (r +ℤ z)) (none_before product)
    ∙ moves_on m (row + q) (row + offset + q) x differences sums r e s e' s' (moved r e s e' s') h lt lt'
    (residue_at m m x (row + q) (row + q) (row + q + offset) (row + offset + q) refl refl (omega arith))
    e_is s_is e_is' s_is' refl
    ∙ residue_at m m x (row + q + 1) (row + (q + 1)) (row + offset + q + 1) (row + (q + 1) + offset) refl (omega arith)
    (omega arith)
