-- Sums: parts of them, sums of squares, and sums of groups.
use Rattle.std.proofs.Common.{◌≡◌, ℕ, zero, suc, ◌+◌, ◌-◌, ◌*◌, ◌<◌, ◌≤◌, inl, inr, refl, arith}
use Rattle.std.proofs.Common.{add-one, subst}
use Rattle.std.proofs.Math.Nat.{mul_comm, mul-add, add-mul}
use Rattle.std.proofs.lemmas.Nat.{mul-le}
use Rattle.std.proofs.lemmas.Bool.{cases_lt}
use Rattle.mp_skips.specs.Totals.{total, gap, square_gap, sum_from, squares_from, group_squares}

pub total_zero : (f : ℕ → ℕ) → total f 0 ≡ 0
unfolding total
total_zero f = refl

pub total_more : (f : ℕ → ℕ) (n : ℕ) → total f (n + 1) ≡ total f n + f n
unfolding total
total_more f n = rw add-one refl

pub total_suc : (f : ℕ → ℕ) (n : ℕ) → total f (suc n) ≡ total f n + f n
unfolding total
total_suc f n = refl

pub total_same : (f g : ℕ → ℕ) (n : ℕ) → ((k : ℕ) → k < n → f k ≡ g k) → total f n ≡ total g n
unfolding total
total_same f g zero h = refl
total_same f g (suc n) h = omega (arith, total_same f g n (λ k lt. h k (omega (arith, lt))), h n (omega arith))

pub total_below : (f g : ℕ → ℕ) (n : ℕ) → ((k : ℕ) → k < n → f k ≤ g k) → total f n ≤ total g n
unfolding total
total_below f g zero h = omega arith
total_below f g (suc n) h = omega (arith, total_below f g n (λ k lt. h k (omega (arith, lt))), h n (omega arith))

-- a sum of two parts
pub total_parts : (f : ℕ → ℕ) (a n : ℕ) → total f (a + n) ≡ total f a + total (λ t. f (a + t)) n
total_parts f a zero =
    let e : a + 0 ≡ a = omega arith in
    rw (e, total_zero) (omega arith)
total_parts f a (suc n) =
    let e : a + suc n ≡ a + n + 1 = omega arith in
    rw (e, total_more f (a + n), total_suc (λ t. f (a + t)) n) (omega (arith, total_parts f a n))

-- some successive places of all
pub total_within : (f : ℕ → ℕ) (a n m : ℕ) → a + n ≤ m → total (λ t. f (a + t)) n ≤ total f m
total_within f a n m le =
    let e : a + n + (m - (a + n)) ≡ m = omega arith in
    subst (λ k. total (λ t. f (a + t)) n ≤ total f k) e
    (omega (arith, total_parts f (a + n) (m - (a + n)), total_parts f a n))

-- the first places of all
pub total_first : (f : ℕ → ℕ) (n m : ℕ) → n ≤ m → total f n ≤ total f m
total_first f n m le =
    let e : n + (m - n) ≡ m = omega arith in
    subst (λ k. total f n ≤ total f k) e (omega (arith, total_parts f n (m - n)))

-- ---- squares

-- (b + c)² + b² is 2 (b + c) b and c² more
squares_apart : (b c : ℕ) → (b + c) * (b + c) + b * b ≡ 2 * ((b + c) * b) + c * c
squares_apart b c = omega (arith, add-mul b c (b + c), mul-add b b c, mul-add c b c, mul_comm c b, add-mul b c b)

two_ordered : (a b : ℕ) → b ≤ a → 2 * (a * b) ≤ a * a + b * b
two_ordered a b le =
    let e : b + (a - b) ≡ a = omega arith in
    subst (λ k. 2 * (k * b) ≤ k * k + b * b) e (omega (arith, squares_apart b (a - b)))

pub two_products : (a b : ℕ) → 2 * (a * b) ≤ a * a + b * b
two_products a b = elim (cases_lt a b) [
  | inl lt ↦ omega (arith, two_ordered b a (omega arith), mul_comm a b)
  | inr le ↦ two_ordered a b le
]

cross : (f : ℕ → ℕ) (g n : ℕ) → 2 * (g * total f n) ≤ total (λ u. f u * f u) n + n * (g * g)
cross f g zero = rw (total_zero f) (omega (arith, mul_comm g 0))
cross f g (suc n) =
    let e : suc n * (g * g) ≡ n * (g * g) + g * g = omega (arith, add-mul n 1 (g * g)) in
    rw (total_suc f n, total_suc (λ u. f u * f u) n, e)
    (omega (arith, cross f g n, two_products g (f n), mul-add g (total f n) (f n)))

-- (s + g)²
square_of_two : (s g : ℕ) → (s + g) * (s + g) ≡ s * s + 2 * (g * s) + g * g
square_of_two s g = omega (arith, add-mul s g (s + g), mul-add s s g, mul-add g s g, mul_comm s g)

one_number_more : (s g q n : ℕ) → s * s ≤ n * q → 2 * (g * s) ≤ q + n * (g * g)
    → (s + g) * (s + g) ≤ suc n * (q + g * g)
one_number_more s g q n le more =
    let e : suc n * (q + g * g) ≡ n * q + n * (g * g) + (q + g * g) =
    omega (arith, add-mul n 1 (q + g * g), mul-add n q (g * g)) in
    omega (arith, square_of_two s g, e)

pub square_of_sum : (f : ℕ → ℕ) (s : ℕ) → total f s * total f s ≤ s * total (λ u. f u * f u) s
square_of_sum f zero = rw (total_zero f) (omega arith)
square_of_sum f (suc n) =
    rw (total_suc f n, total_suc (λ u. f u * f u) n)
    (one_number_more (total f n) (f n) (total (λ u. f u * f u) n) n (square_of_sum f n) (cross f (f n) n))

-- ---- groups

-- sums are no further apart than their numbers are in all
gap_of_sums : (f g : ℕ → ℕ) (n : ℕ) → gap (total f n) (total g n) ≤ total (λ u. gap (f u) (g u)) n
gap_of_sums f g zero = rw (total_zero f, total_zero g) (omega arith)
gap_of_sums f g (suc n) =
    rw (total_suc f n, total_suc g n, total_suc (λ u. gap (f u) (g u)) n) (omega (arith, gap_of_sums f g n))

square_there : (x y : ℕ → ℕ) (i j p u : ℕ)
    → square_gap (x (i + p + u)) (y (j + p + u)) ≡ square_gap (x (i + (p + u))) (y (j + (p + u)))
square_there x y i j p u =
    let e : i + p + u ≡ i + (p + u) = omega arith in
    let f : j + p + u ≡ j + (p + u) = omega arith in
    rw (e, f) refl

-- a group of s numbers
one_group : (x y : ℕ → ℕ) (s i j p : ℕ)
    → square_gap (sum_from x s (i + p)) (sum_from y s (j + p))
    ≤ s * total (λ u. square_gap (x (i + (p + u))) (y (j + (p + u)))) s
one_group x y s i j p =
    let near = gap_of_sums (λ u. x (i + p + u)) (λ u. y (j + p + u)) s in
    let squares = square_of_sum (λ u. gap (x (i + p + u)) (y (j + p + u))) s in
    let same = total_same (λ u. square_gap (x (i + p + u)) (y (j + p + u)))
    (λ u. square_gap (x (i + (p + u))) (y (j + (p + u)))) s (λ u lt. square_there x y i j p u) in
    rw (← same) (omega (arith, squares, mul-le _ _ _ _ near near))

groups_in : (x y : ℕ → ℕ) (s n i j : ℕ) → group_squares x y s n i j ≤ s * squares_from x y (n * s) i j
groups_in x y s zero i j =
    rw (total_zero (λ t. square_gap (sum_from x s (i + t * s)) (sum_from y s (j + t * s)))) (omega arith)
groups_in x y s (suc n) i j =
    let e : suc n * s ≡ n * s + s = omega (arith, add-mul n 1 s) in
    rw (
      total_suc (λ t. square_gap (sum_from x s (i + t * s)) (sum_from y s (j + t * s))) n,
      e,
      total_parts (λ t. square_gap (x (i + t)) (y (j + t))) (n * s) s,
      mul-add s (total (λ t. square_gap (x (i + t)) (y (j + t))) (n * s))
          (total (λ u. square_gap (x (i + (n * s + u))) (y (j + (n * s + u)))) s),
    )
    (omega (arith, groups_in x y s n i j, one_group x y s i j (n * s)))

pub groups_below : (x y : ℕ → ℕ) (s n m i j : ℕ) → n * s ≤ m
    → group_squares x y s n i j ≤ s * squares_from x y m i j
groups_below x y s n m i j le =
    let all : squares_from x y (n * s) i j ≤ squares_from x y m i j =
    total_first (λ t. square_gap (x (i + t)) (y (j + t))) (n * s) m le in
    omega (arith, groups_in x y s n i j, mul-le s _ s _ (omega arith) all)
