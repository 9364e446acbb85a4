-- The samples that successive pairs of a diagonal share.
use Rattle.std.proofs.Common.{◌≡◌, ℕ, zero, suc, ◌+◌, ◌-◌, ◌<◌, ◌≤◌, refl, sym, ◌∙◌, arith, subst}
use Rattle.std.specs.Prelude.{ℤ, ◌-ℤ◌, ◌≤ℤ◌, unsigned_abs, Option, Some, None}
use Rattle.std.proofs.lemmas.Int.{ints}
use Rattle.mp_defs.specs.Series.{Series, number_at}
use Rattle.mp_defs.specs.Distance.{squared_difference, square_between, plus, distance}
use Rattle.mp_defs.specs.DistanceLaws.{grows_by_one_sample}
use Rattle.mp_sums.specs.Sums.{numbers_of, square_sum}
use Rattle.mp_sums.specs.SumLaws.{distances_are_sums, sum_joined, first_of_all}
use Rattle.mp_skips.specs.Totals.{gap, square_gap, squares_from, raised, level}
use Rattle.mp_skips.specs.Bounds.{CoreIsBelow}
use Rattle.mp_skips.specs.Sums.{IsLow}
use Rattle.mp_skips.proofs.TotalLemmas.{total_zero, total_suc, total_same, total_within}

-- the last n squares of all
last_of_all : (k n : ℕ) (x : ℕ → ℤ) (i : ℕ) (y : ℕ → ℤ) (j : ℕ)
    → square_sum n x (i + k) y (j + k) ≤ square_sum (k + n) x i y j
last_of_all k n x i y j = omega (arith, sum_joined k n x i y j)

core_in : (m k r : ℕ) (x : ℕ → ℤ) (i : ℕ) (y : ℕ → ℤ) (j : ℕ) → r ≤ k → k ≤ m
    → square_sum (m - k) x (i + k) y (j + k) ≤ square_sum m x (i + r) y (j + r)
core_in m k r x i y j rk km =
    let e : i + r + (k - r) ≡ i + k = omega arith in
    let f : j + r + (k - r) ≡ j + k = omega arith in
    let h : square_sum (m - k) x (i + k) y (j + k) ≤ square_sum (k - r + (m - k)) x (i + r) y (j + r) =
    subst (λ p. square_sum (m - k) x p y (j + k) ≤ square_sum (k - r + (m - k)) x (i + r) y (j + r)) e
    (subst (λ q. square_sum (m - k) x (i + r + (k - r)) y q ≤ square_sum (k - r + (m - k)) x (i + r) y (j + r)) f
    (last_of_all (k - r) (m - k) x (i + r) y (j + r))) in
    omega (arith, h, first_of_all (k - r + (m - k)) m x (i + r) y (j + r) (omega arith))

pub core_below : CoreIsBelow
core_below m k r a i b j d rk km is =
    omega (
      arith,
      distances_are_sums m a (i + r) b (j + r) d is,
      core_in m k r (numbers_of a) i (numbers_of b) j rk km,
    )

-- ---- the same of samples above a low number

same_gap : (x y low : ℤ) → low ≤ℤ x → low ≤ℤ y
    → gap (unsigned_abs (x -ℤ low)) (unsigned_abs (y -ℤ low)) ≡ unsigned_abs (x -ℤ y)
same_gap x y low a b = omega (arith, ints, a, b)

square_raised : (low : ℤ) (x y : Option ℤ) (q : ℕ) → ((z : ℤ) → x ≡ Some z → low ≤ℤ z)
    → ((z : ℤ) → y ≡ Some z → low ≤ℤ z) → square_between x y ≡ Some q
    → q ≡ square_gap (raised low x) (raised low y)
square_raised low None y q a b e = absurd (cc)
square_raised low (Some x) None q a b e = absurd (cc)
square_raised low (Some x) (Some y) q a b e =
    let here : q ≡ squared_difference x y = cc in
    rw (same_gap x y low (a x refl) (b y refl)) here

-- what two numbers that may be missing give
record AreBoth (a b : Option ℕ) (d : ℕ) : Type 0 where
  one : ℕ
  other : ℕ
  one_is : a ≡ Some one
  other_is : b ≡ Some other
  sum_is : d ≡ one + other

both : (a b : Option ℕ) (d : ℕ) → plus a b ≡ Some d → AreBoth a b d
both None b d e = absurd (cc)
both (Some a) None d e = absurd (cc)
both (Some a) (Some b) d e = record { one = a; other = b; one_is = refl; other_is = refl; sum_is = cc }

pub distance_raised : (low : ℤ) (m : ℕ) (a : Series) (i : ℕ) (b : Series) (j d : ℕ) → IsLow low a → IsLow low b
    → distance m a i b j ≡ Some d → d ≡ squares_from (level low a) (level low b) m i j
distance_raised low zero a i b j d p q e =
    rw (total_zero (λ t. square_gap (level low a (i + t)) (level low b (j + t))))
    (let h = grows_by_one_sample.no_samples a i b j in cc)
distance_raised low (suc m) a i b j d p q e =
    let one : m + 1 ≡ suc m = omega arith in
    let more : distance (suc m) a i b j
    ≡ plus (distance m a i b j) (square_between (number_at a (i + m)) (number_at b (j + m))) =
    subst (λ k. distance k a i b j
    ≡ plus (distance m a i b j) (square_between (number_at a (i + m)) (number_at b (j + m)))) one
    (grows_by_one_sample.one_more m a i b j) in
    let parts = both (distance m a i b j) (square_between (number_at a (i + m)) (number_at b (j + m))) d
    (sym more ∙ e) in
    rw (total_suc (λ t. square_gap (level low a (i + t)) (level low b (j + t))) m)
    (omega (
      arith,
      parts.sum_is,
      distance_raised low m a i b j parts.one p q parts.one_is,
      square_raised low (number_at a (i + m)) (number_at b (j + m)) parts.other (p.each (i + m)) (q.each (j + m))
          parts.other_is,
    ))

pub raised_core_below : (low : ℤ) (m k r : ℕ) (a : Series) (i : ℕ) (b : Series) (j d : ℕ) → IsLow low a → IsLow low b
    → r ≤ k → k ≤ m → distance m a (i + r) b (j + r) ≡ Some d
    → squares_from (level low a) (level low b) (m - k) (i + k) (j + k) ≤ d
raised_core_below low m k r a i b j d p q rk km is =
    let x = level low a in
    let y = level low b in
    let there : (t : ℕ) → t < m - k → square_gap (x (i + k + t)) (y (j + k + t))
    ≡ square_gap (x (i + r + (k - r + t))) (y (j + r + (k - r + t))) =
    λ t lt. (let e : i + k + t ≡ i + r + (k - r + t) = omega arith in
    let f : j + k + t ≡ j + r + (k - r + t) = omega arith in rw (e, f) refl) in
    omega (
      arith,
      distance_raised low m a (i + r) b (j + r) d p q is,
      total_same (λ t. square_gap (x (i + k + t)) (y (j + k + t)))
          (λ t. square_gap (x (i + r + (k - r + t))) (y (j + r + (k - r + t)))) (m - k) there,
      total_within (λ t. square_gap (x (i + r + t)) (y (j + r + t))) (k - r) (m - k) m (omega arith),
    )
