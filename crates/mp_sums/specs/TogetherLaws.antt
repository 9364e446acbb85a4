-- Why windows of several series that lie together within a limit pass together.
use Rattle.std.proofs.Common.{◌≡◌, ℕ, zero, suc, ◌+◌, ◌-◌, ◌*◌, ◌^◌, ◌<◌, ◌≤◌, inl, inr, refl, sym, ap, ◌∙◌, arith}
use Rattle.std.proofs.Common.{subst}
use Rattle.std.proofs.Common.{w32, ℤ, pos, ◌+ℤ◌, ◌-ℤ◌, List, [], ◌∷◌, length}
use Rattle.std.specs.Prelude.{◌≤ℤ◌, negsuc, ◌==◌, if◌then◌else◌, nat_lt}
use Rattle.std.specs.Int.{int_wrap, int_shr}
use Rattle.std.proofs.Math.Nat.{add-mul}
use Rattle.std.proofs.lemmas.Bool.{cases_lt}
use Rattle.std.proofs.lemmas.Bool.Decides.{nat_tests}
use Rattle.std.proofs.lemmas.Int.{ints, int_wrap-add_left}
use Rattle.mp_defs.specs.Distance.{squared_difference}
use Rattle.mp_sums.specs.declared.limits.Limit.{Limit}
use Rattle.mp_sums.specs.declared.limits.Limit.TheVariants.{Every, Within, Below}
use Rattle.mp_sums.specs.Sums.{square_sum}
use Rattle.mp_sums.specs.Limits.{IsWithin}
use Rattle.mp_sums.specs.Rounding.{threshold}
use Rattle.mp_sums.specs.Residues.{residue, residue_limit, limit_below, limit_within}
use Rattle.mp_sums.specs.Together.{sums_by, sums_together, rounded_together, natural, counted}
use Rattle.mp_sums.specs.Laws.{SumsTellTogether}
use Rattle.mp_sums.specs.SumLaws.{sum_of_none, sum_suc, sum_joined}
use Rattle.mp_sums.specs.RoundingLaws.{rounded_sums_are_near}
use Rattle.mp_sums.specs.ResidueLaws.{small_residue, no_residue_above, up_to, by_test, some_distance, not_within}
use Rattle.mp_sums.specs.ResidueLaws.{above_and_within}

-- ---- the windows behind each other are one window

-- the numbers of the windows at i, one behind the other
unfoldable stacked : ℕ → List (ℕ → ℤ) → ℕ → ℕ → ℤ
stacked m [] i t = pos 0
stacked m (x ∷ xs) i t = if nat_lt t m then x (i + t) else stacked m xs i (t - m)

-- sums of numbers that are the same at other places
sum_elsewhere : (m : ℕ) (x x' : ℕ → ℤ) (i i' : ℕ) (y y' : ℕ → ℤ) (j j' : ℕ)
    → ((k : ℕ) → k < m → x (i + k) ≡ x' (i' + k)) → ((k : ℕ) → k < m → y (j + k) ≡ y' (j' + k))
    → square_sum m x i y j ≡ square_sum m x' i' y' j'
sum_elsewhere zero x x' i i' y y' j j' e f = sum_of_none x i y j ∙ sym (sum_of_none x' i' y' j')
sum_elsewhere (suc m) x x' i i' y y' j j' e f =
    let last : squared_difference (x (i + m)) (y (j + m)) ≡ squared_difference (x' (i' + m)) (y' (j' + m)) =
    ap (λ z. squared_difference z (y (j + m))) (e m (omega arith))
    ∙ ap (squared_difference (x' (i' + m))) (f m (omega arith)) in
    omega (
      arith,
      sum_suc m x i y j,
      sum_suc m x' i' y' j',
      last,
      sum_elsewhere m x x' i i' y y' j j' (λ k lt. e k (omega (arith, lt))) (λ k lt. f k (omega (arith, lt))),
    )

at_first : (m t : ℕ) (u v : ℤ) → t < m → (if nat_lt t m then u else v) ≡ u
at_first m t u v lt = grind (arith, nat_tests)

at_other : (m t : ℕ) (u v : ℤ) → m ≤ t → (if nat_lt t m then u else v) ≡ v
at_other m t u v le = grind (arith, nat_tests)

in_first : (m : ℕ) (x : ℕ → ℤ) (xs : List (ℕ → ℤ)) (i k : ℕ) → k < m → stacked m (x ∷ xs) i (0 + k) ≡ x (i + k)
unfolding stacked
in_first m x xs i k lt =
    at_first m (0 + k) (x (i + (0 + k))) (stacked m xs i (0 + k - m)) (omega (arith, lt))
    ∙ ap (λ n. x (i + n)) (omega arith)

in_others : (m : ℕ) (x : ℕ → ℤ) (xs : List (ℕ → ℤ)) (i k : ℕ)
    → stacked m (x ∷ xs) i (0 + m + k) ≡ stacked m xs i (0 + k)
unfolding stacked
in_others m x xs i k =
    at_other m (0 + m + k) (x (i + (0 + m + k))) (stacked m xs i (0 + m + k - m)) (omega arith)
    ∙ ap (stacked m xs i) (omega arith)

sums_of_none : (f : ℤ → ℤ) (m i j : ℕ) → sums_by f m [] i j ≡ 0
unfolding sums_by
sums_of_none f m i j = refl

sums_of_more : (f : ℤ → ℤ) (m : ℕ) (x : ℕ → ℤ) (xs : List (ℕ → ℤ)) (i j : ℕ)
    → sums_by f m (x ∷ xs) i j ≡ square_sum m (λ t. f (x t)) i (λ t. f (x t)) j + sums_by f m xs i j
unfolding sums_by
sums_of_more f m x xs i j = refl

-- so their sum is that of all together
stacked_sum : (f : ℤ → ℤ) (m : ℕ) (xs : List (ℕ → ℤ)) (i j : ℕ)
    → square_sum (length xs * m) (λ t. f (stacked m xs i t)) 0 (λ t. f (stacked m xs j t)) 0 ≡ sums_by f m xs i j
stacked_sum f m [] i j =
    let none : 0 ≡ 0 * m = omega arith in
    subst (λ n. square_sum n (λ t. f (stacked m [] i t)) 0 (λ t. f (stacked m [] j t)) 0 ≡ sums_by f m [] i j) none
    (sum_of_none (λ t. f (stacked m [] i t)) 0 (λ t. f (stacked m [] j t)) 0 ∙ sym (sums_of_none f m i j))
stacked_sum f m (x ∷ xs) i j =
    let u : ℕ → ℤ = λ t. f (stacked m (x ∷ xs) i t) in
    let v : ℕ → ℤ = λ t. f (stacked m (x ∷ xs) j t) in
    let g : ℕ → ℤ = λ t. f (x t) in
    let u' : ℕ → ℤ = λ t. f (stacked m xs i t) in
    let v' : ℕ → ℤ = λ t. f (stacked m xs j t) in
    let parts : m + length xs * m ≡ suc (length xs) * m = omega (arith, add-mul (length xs) 1 m) in
    let first : square_sum m u 0 v 0 ≡ square_sum m g i g j =
    sum_elsewhere m u g 0 i v g 0 j (λ k lt. ap f (in_first m x xs i k lt)) (λ k lt. ap f (in_first m x xs j k lt)) in
    let others : square_sum (length xs * m) u (0 + m) v (0 + m) ≡ square_sum (length xs * m) u' 0 v' 0 =
    sum_elsewhere (length xs * m) u u' (0 + m) 0 v v' (0 + m) 0 (λ k _. ap f (in_others m x xs i k))
    (λ k _. ap f (in_others m x xs j k)) in
    subst (λ n. square_sum n u 0 v 0 ≡ sums_by f m (x ∷ xs) i j) parts
    (omega (
      arith,
      sum_joined m (length xs * m) u 0 v 0,
      first,
      others,
      stacked_sum f m xs i j,
      sums_of_more f m x xs i j,
    ))

rounded_within : (m shift limit : ℕ) (xs : List (ℕ → ℤ)) (i j : ℕ) → sums_together m xs i j ≤ limit
    → rounded_together m shift xs i j ≤ threshold (length xs * m) shift limit
rounded_within m shift limit xs i j le =
    subst (λ n. n ≤ threshold (length xs * m) shift limit) (stacked_sum (λ z. int_shr z shift) m xs i j)
    (rounded_sums_are_near (length xs * m) shift limit (stacked m xs i) 0 (stacked m xs j) 0
    (omega (arith, le, stacked_sum (λ z. z) m xs i j)))

-- ---- what residues are taken for

natural_within : (z : ℤ) (n : ℕ) → z ≤ℤ pos n → natural z ≤ n
natural_within (pos k) n le = omega (arith, ints, le)
natural_within (negsuc k) n le = omega arith

natural_is : (z : ℤ) (n : ℕ) → z ≡ pos n → natural z ≡ n
natural_is z n e = ap natural e

back : (n : ℕ) → (pos n -ℤ pos 2147483647) +ℤ pos 2147483647 ≡ pos n
back n = omega (arith, ints)

counts : (sum : ℕ) → counted (residue sum) ≤ sum
counts sum = elim (cases_lt sum (2 ^ 32 - 1)) [
  | inl lt ↦
      let is : counted (residue sum) ≡ sum =
      natural_is (residue sum +ℤ pos 2147483647) sum
      (ap (λ z. z +ℤ pos 2147483647) (small_residue sum lt) ∙ back sum) in
      omega (arith, is)
  | inr ge ↦
      let top : residue sum ≤ℤ pos 2147483647 = no_residue_above sum in
      let all : counted (residue sum) ≤ 4294967294 =
      natural_within (residue sum +ℤ pos 2147483647) 4294967294 (omega (arith, ints, top)) in
      omega (arith, all, ge)
]

-- from the residue of 0 on a residue is the sum that it is taken for
counted_above : (z : ℤ) → pos 0 ≤ℤ z → pos (natural z) ≡ z
counted_above (pos n) le = refl
counted_above (negsuc n) le = absurd (omega (arith, ints, le))

put_together : (sum : ℕ) (r n : ℤ) → n ≡ r +ℤ pos 2147483647
    → (pos sum -ℤ pos 2147483647) +ℤ n ≡ pos sum +ℤ r
put_together sum r n e = omega (arith, ints, e)

adds : (sum : ℕ) (r : ℤ) → negsuc 2147483646 ≤ℤ r
    → int_wrap w32 (residue sum +ℤ (r -ℤ negsuc 2147483646)) ≡ residue (sum + counted r)
adds sum r least =
    let n : pos (counted r) ≡ r +ℤ pos 2147483647 =
    counted_above (r +ℤ pos 2147483647) (omega (arith, ints, least)) in
    let all : (pos sum -ℤ pos 2147483647) +ℤ (r -ℤ negsuc 2147483646) ≡ pos (sum + counted r) -ℤ pos 2147483647 =
    omega (arith, ints, n) in
    int_wrap-add_left w32 (pos sum -ℤ pos 2147483647) (r -ℤ negsuc 2147483646) ∙ ap (int_wrap w32) all

-- ---- limits

within_passes : (m shift limit : ℕ) (xs : List (ℕ → ℤ)) (i j sum : ℕ) → sums_together m xs i j ≤ limit
    → sum ≤ rounded_together m shift xs i j → residue sum ≤ℤ limit_within (length xs * m) shift limit
within_passes m shift limit xs i j sum le few =
    up_to sum (threshold (length xs * m) shift limit) (omega (arith, few, rounded_within m shift limit xs i j le))

below_passes : (m shift end : ℕ) (xs : List (ℕ → ℤ)) (i j sum : ℕ) → sums_together m xs i j < end
    → sum ≤ rounded_together m shift xs i j → residue sum ≤ℤ limit_below (length xs * m) shift end
below_passes m shift end xs i j sum lt few =
    by_test (end == 0) (residue sum) (negsuc 2147483647) (limit_within (length xs * m) shift (end - 1))
    (some_distance (sums_together m xs i j) end lt)
    (within_passes m shift (end - 1) xs i j sum (omega (arith, lt)) few)

passes_together : (m shift : ℕ) (limit : Limit) (xs : List (ℕ → ℤ)) (i j sum : ℕ)
    → IsWithin limit (sums_together m xs i j) → sum ≤ rounded_together m shift xs i j
    → residue sum ≤ℤ residue_limit (length xs * m) shift limit
passes_together m shift Every xs i j sum h few = no_residue_above sum
passes_together m shift (Within most) xs i j sum h few = within_passes m shift most.0 xs i j sum h few
passes_together m shift (Below end) xs i j sum h few = below_passes m shift end.0 xs i j sum h few

pub sums_tell_together : SumsTellTogether
sums_tell_together = record {
  no_series = λ m i j. sums_of_none (λ z. z) m i j;
  one_more = λ m x xs i j. sums_of_more (λ z. z) m x xs i j;
  no_rounded = λ m shift i j. sums_of_none (λ z. int_shr z shift) m i j;
  one_more_rounded = λ m shift x xs i j. sums_of_more (λ z. int_shr z shift) m x xs i j;
  rounded = rounded_within;
  counts = counts;
  adds = adds;
  passes = passes_together;
  beyond = λ m shift limit xs i j sum few above.
      not_within limit (sums_together m xs i j) (λ h.
      above_and_within (residue sum) (residue_limit (length xs * m) shift limit) above
      (passes_together m shift limit xs i j sum h few));
}
