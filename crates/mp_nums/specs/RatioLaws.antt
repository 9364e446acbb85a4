-- Cross products order fractions, since no denominator is 0.
use Rattle.std.specs.Prelude.{◌≡◌, ℕ, ◌*◌, ◌<◌, ◌==◌}
use Rattle.std.proofs.Common.{arith, sym, ap, ◌∙◌, subst, refl}
use Rattle.std.proofs.lemmas.Bool.Decides.{nat_tests}
use Rattle.std.proofs.lemmas.Cmp.{nat_cmp_total, eq_by_cmp_equiv, ranked, by_ranked}
use Rattle.std.specs.Cmp.{IsTotalOrder, IsEquivalence, IsPartialEquivalence, IsPartialOrder, partial_equiv_from_equiv}
use Rattle.std.specs.Cmp.{partial_order_from_agreeing_total}
use Rattle.std.specs.Ordering.{nat_cmp, is_eq, eq_by_cmp, as_partial_cmp}
use Rattle.std.specs.declared.cmp.Ordering.TheVariants.{Less, Equal, Greater}
use native.Mathlib.Nat.{mul-lt-mul_of_pos_right, lt_of_mul-lt-mul_right}
use Rattle.mp_nums.specs.declared.ratios.Ratio.{Ratio}
use Rattle.mp_nums.specs.Ratio.{ratio_eq, ratio_cmp}

less_is : (x y : ℕ) → nat_cmp x y ≡ Less → x < y
less_is x y h =
    by_ranked (x < y) (x ≡ y) (y < x) (nat_cmp x y) (ranked x y (nat_cmp x y) refl) (λ _ lt. lt)
    (λ e _. absurd (cc (sym e ∙ h))) (λ e _. absurd (cc (sym e ∙ h)))

equal_is : (x y : ℕ) → nat_cmp x y ≡ Equal → x ≡ y
equal_is x y h =
    by_ranked (x < y) (x ≡ y) (y < x) (nat_cmp x y) (ranked x y (nat_cmp x y) refl) (λ e _. absurd (cc (sym e ∙ h)))
    (λ _ same. same) (λ e _. absurd (cc (sym e ∙ h)))

is_less : (x y : ℕ) → x < y → nat_cmp x y ≡ Less
is_less x y h =
    by_ranked (x < y) (x ≡ y) (y < x) (nat_cmp x y) (ranked x y (nat_cmp x y) refl) (λ e _. e)
    (λ _ same. absurd (omega arith)) (λ _ more. absurd (omega arith))

is_equal : (x y : ℕ) → x ≡ y → nat_cmp x y ≡ Equal
is_equal x y h =
    by_ranked (x < y) (x ≡ y) (y < x) (nat_cmp x y) (ranked x y (nat_cmp x y) refl) (λ _ less. absurd (omega arith))
    (λ e _. e) (λ _ more. absurd (omega arith))

is_greater : (x y : ℕ) → y < x → nat_cmp x y ≡ Greater
is_greater x y h =
    by_ranked (x < y) (x ≡ y) (y < x) (nat_cmp x y) (ranked x y (nat_cmp x y) refl) (λ _ less. absurd (omega arith))
    (λ _ same. absurd (omega arith)) (λ e _. e)

-- a positive factor changes no comparison
scaled : (k x y : ℕ) → 0 < k → nat_cmp (x * k) (y * k) ≡ nat_cmp x y
scaled k x y pos = by_ranked (x < y) (x ≡ y) (y < x) (nat_cmp x y) (ranked x y (nat_cmp x y) refl)
    (λ e less. is_less _ _ (mul-lt-mul_of_pos_right less pos) ∙ sym e)
    (λ e same. is_equal _ _ (ap (λ n. n * k) same) ∙ sym e)
    (λ e more. is_greater _ _ (mul-lt-mul_of_pos_right more pos) ∙ sym e)

ratio_trans : (a b c : Ratio) → ratio_cmp a b ≡ Less → ratio_cmp b c ≡ Less → ratio_cmp a c ≡ Less
ratio_trans a b c h k =
    let first = mul-lt-mul_of_pos_right (less_is (a.num * b.den) (b.num * a.den) h) c.positive in
    let second = mul-lt-mul_of_pos_right (less_is (b.num * c.den) (c.num * b.den) k) a.positive in
    is_less _ _ (lt_of_mul-lt-mul_right b.den {m = a.num * c.den} {n = c.num * a.den} (omega (arith, first, second)))

ratio_congr : (a b c : Ratio) → ratio_cmp a b ≡ Equal → ratio_cmp a c ≡ ratio_cmp b c
ratio_congr a b c h =
    let same : a.num * b.den ≡ b.num * a.den = equal_is (a.num * b.den) (b.num * a.den) h in
    let first : a.num * c.den * b.den ≡ b.num * c.den * a.den = omega (arith, ap (λ n. n * c.den) same) in
    let second : c.num * a.den * b.den ≡ c.num * b.den * a.den = omega arith in
    sym (scaled b.den (a.num * c.den) (c.num * a.den) b.positive)
    ∙ (ap (λ n. nat_cmp n (c.num * a.den * b.den)) first
    ∙ (ap (λ n. nat_cmp (b.num * c.den * a.den) n) second
    ∙ scaled a.den (b.num * c.den) (c.num * b.den) a.positive))

pub ratio_total : IsTotalOrder ratio_cmp
ratio_total = record {
  antisymm = λ a b. nat_cmp_total.antisymm (a.num * b.den) (b.num * a.den);
  trans = ratio_trans;
  congr = ratio_congr;
}

test_is : (x y : ℕ) → (x == y) ≡ is_eq (nat_cmp x y)
test_is x y = grind (arith, nat_tests)

pub ratio_matches_eq : (a b : Ratio) → ratio_eq a b ≡ eq_by_cmp ratio_cmp a b
ratio_matches_eq a b = test_is (a.num * b.den) (b.num * a.den)

pub ratio_equivalence : IsEquivalence ratio_eq
ratio_equivalence = subst IsEquivalence (λ i a b. sym (ratio_matches_eq a b) i) (eq_by_cmp_equiv ratio_total)

pub ratio_partial_equivalence : IsPartialEquivalence ratio_eq
ratio_partial_equivalence = partial_equiv_from_equiv ratio_equivalence

pub ratio_order : IsPartialOrder ratio_eq (as_partial_cmp ratio_cmp)
ratio_order = partial_order_from_agreeing_total ratio_cmp ratio_total (λ a b. refl) ratio_matches_eq
