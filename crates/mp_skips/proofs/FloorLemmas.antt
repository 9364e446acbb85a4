-- Sums that are rounded down.
use Rattle.std.proofs.Common.{◌≡◌, ℕ, zero, suc, ◌+◌, ◌-◌, ◌*◌, ◌<◌, ◌≤◌, inl, inr, ap, ◌∙◌, arith}
use Rattle.std.proofs.Math.Nat.{mul_comm, mul_assoc, mul_left_comm, mul-add, add-mul}
use Rattle.std.proofs.lemmas.Nat.{mul-le}
use Rattle.std.proofs.lemmas.Bool.{cases_lt}
use Rattle.mp_skips.specs.Totals.{total, gap, sum_from, squares_from, group_squares}
use Rattle.mp_skips.specs.Bounds.{IsFloor, FloorsAreSafe, floor_squares}
use Rattle.mp_skips.specs.Slack.{IsSlack}
use Rattle.mp_skips.proofs.TotalLemmas.{total_zero, total_suc, two_products, groups_below}

ordered_floors : (g z w p q : ℕ) → p ≤ q → IsFloor g z p → IsFloor g w q → gap p q * g + 1 ≤ gap z w + g
ordered_floors g z w p q le f h =
    let e : gap p q ≡ q - p = omega arith in
    let parts : q * g ≡ p * g + (q - p) * g =
    (let k : q ≡ p + (q - p) = omega arith in ap (λ n. n * g) k ∙ add-mul p (q - p) g) in
    rw e (omega (arith, parts, f.below, f.above, h.below, h.above))

gap_turned : (x y : ℕ) → gap x y ≡ gap y x
gap_turned x y = omega arith

-- rounding down brings numbers together by less than a grain
floors_near : (g z w p q : ℕ) → IsFloor g z p → IsFloor g w q → gap p q * g + 1 ≤ gap z w + g
floors_near g z w p q f h = elim (cases_lt p q) [
  | inl lt ↦ ordered_floors g z w p q (omega arith) f h
  | inr le ↦ rw (gap_turned p q, gap_turned z w) (ordered_floors g w z q p le h f)
]

pub times_apart : (g p q : ℕ) → q ≤ p → p * g ≡ q * g + (p - q) * g
times_apart g p q le = (let k : p ≡ q + (p - q) = omega arith in ap (λ n. n * g) k ∙ add-mul q (p - q) g)

-- less what is left they lie no further apart
pub floors_apart : (g slack z w p q : ℕ) → IsSlack g slack → IsFloor g z p → IsFloor g w q
    → (gap p q - slack) * g ≤ gap z w
floors_apart g slack z w p q enough f h = elim (cases_lt slack (gap p q)) [
  | inl lt ↦ omega (
    arith,
    times_apart g (gap p q) slack (omega (arith, lt)),
    floors_near g z w p q f h,
    enough.enough,
  )
  | inr le ↦
      let e : gap p q - slack ≡ 0 = omega (arith, le) in
      rw e (omega arith)
]

-- whole units of 1 are the number itself
pub floor_of_one : (g z p : ℕ) → g ≡ 1 → IsFloor g z p → p ≡ z
floor_of_one g z p one f =
    let e : p * g ≡ p = ap (λ n. p * n) one ∙ omega arith in
    omega (arith, e, one, f.below, f.above)

-- t (d + c)² ≤ (t + 1) d² + t (t + 1) c²
weighted : (t d c : ℕ) → t * ((d + c) * (d + c)) ≤ (t + 1) * (d * d) + t * ((t + 1) * (c * c))
weighted t d c =
    let two : 2 * (d * (t * c)) ≤ d * d + (t * c) * (t * c) = two_products d (t * c) in
    let e : (d + c) * (d + c) ≡ d * d + 2 * (d * c) + c * c = omega
    (arith, add-mul d c (d + c), mul-add d d c, mul-add c d c, mul_comm c d) in
    let f : t * (d * d + 2 * (d * c) + c * c) ≡ t * (d * d) + t * (2 * (d * c)) + t * (c * c) = omega
    (arith, mul-add t (d * d + 2 * (d * c)) (c * c), mul-add t (d * d) (2 * (d * c))) in
    let k : t * (2 * (d * c)) ≡ 2 * (d * (t * c)) = mul_left_comm t 2 (d * c) ∙ ap (λ n. 2 * n) (mul_left_comm t d c) in
    let l : (t * c) * (t * c) ≡ t * (t * (c * c)) = mul_assoc t c (t * c) ∙ ap (λ n. t * n) (mul_left_comm c t c) in
    let m : t * ((t + 1) * (c * c)) ≡ t * (t * (c * c)) + t * (c * c) = ap (λ n. t * n) (add-mul t 1 (c * c))
    ∙ omega (arith, mul-add t (t * (c * c)) (1 * (c * c))) in
    let r : (t + 1) * (d * d) ≡ t * (d * d) + d * d = omega (arith, add-mul t 1 (d * d)) in
    omega (arith, two, e, f, k, l, m, r, ap (λ n. t * n) e)

-- one term: what lies below a grain more
one_term : (t e d g : ℕ) → e * g + 1 ≤ d + g → t * (g * g * (e * e)) ≤ (t + 1) * (d * d) + t * ((t + 1) * (g * g))
one_term t e d g le =
    let all : e * g ≤ d + g = omega arith in
    let squares : g * g * (e * e) ≡ (e * g) * (e * g) = omega (
      arith,
      mul_assoc g g (e * e),
      mul_left_comm g e e,
      mul_assoc e g (e * g),
      mul_left_comm g e g,
      ap (λ n. g * n)
          (mul_left_comm g e e),
      mul_left_comm g e (g * e),
      ap (λ n. e * n) (mul_left_comm g e g),
      mul_comm e g,
    ) in
    let below : (e * g) * (e * g) ≤ (d + g) * (d + g) = mul-le _ _ _ _ all all in
    let times : t * ((e * g) * (e * g)) ≤ t * ((d + g) * (d + g)) = mul-le t _ t _ (omega arith) below in
    omega (arith, times, ap (λ n. t * n) squares, weighted t d g)

terms : (t g n : ℕ) (e d : ℕ → ℕ) → ((k : ℕ) → k < n → e k * g + 1 ≤ d k + g)
    → t * (g * g * total (λ k. e k * e k) n) ≤ (t + 1) * total (λ k. d k * d k) n + t * ((t + 1) * (n * (g * g)))
terms t g zero e d h = rw (total_zero (λ k. e k * e k), total_zero (λ k. d k * d k)) (omega arith)
terms t g (suc n) e d h =
    let here : suc n * (g * g) ≡ n * (g * g) + g * g = omega (arith, add-mul n 1 (g * g)) in
    rw (
      total_suc (λ k. e k * e k) n,
      total_suc (λ k. d k * d k) n,
      here,
      mul-add (g * g) (total (λ k. e k * e k) n) (e n * e n),
      mul-add t (g * g * total (λ k. e k * e k) n) (g * g * (e n * e n)),
      mul-add (t + 1) (total (λ k. d k * d k) n) (d n * d n),
      mul-add (t + 1) (n * (g * g)) (g * g),
      mul-add t ((t + 1) * (n * (g * g))) ((t + 1) * (g * g)),
    )
    (omega (arith, terms t g n e d (λ k lt. h k (omega (arith, lt))), one_term t (e n) (d n) g (h n (omega arith))))

past : (t s l c x q b : ℕ) → (t + 1) * (s * l) + x < q → q ≤ (t + 1) * b + x → b ≤ s * c → l < c
past t s l c x q b lt le below = elim (cases_lt l c) [
  | inl less ↦ less
  | inr more ↦ absurd (omega (
    arith,
    mul-le (t + 1) b (t + 1) (s * l) (omega arith)
        (omega (arith, mul-le s c s l (omega arith) more)),
  ))
]

pub floors_safe : FloorsAreSafe
floors_safe x y p q s n m i j grain weight limit le f h more =
    let each = terms weight grain n (λ t. gap (p (i + t * s)) (q (j + t * s)))
    (λ t. gap (sum_from x s (i + t * s)) (sum_from y s (j + t * s)))
    (λ t lt. floors_near grain (sum_from x s (i + t * s)) (sum_from y s (j + t * s)) (p (i + t * s)) (q (j + t * s))
    (f t lt) (h t lt)) in
    past weight s limit (squares_from x y m i j) (weight * ((weight + 1) * (n * (grain * grain))))
    (weight * (grain * grain * floor_squares p q s n i j)) (group_squares x y s n i j) more each
    (groups_below x y s n m i j le)
