-- Why sums of rounded numbers stay within thresholds.
use Rattle.std.proofs.Common.{◌≡◌, ℕ, zero, suc, ◌+◌, ◌-◌, ◌*◌, ◌/◌, ◌^◌, ◌<◌, ◌≤◌, inl, inr, refl, sym, ap, ◌∙◌, arith}
use Rattle.std.proofs.Common.{subst, Bool, true, false}
use Rattle.std.specs.Prelude.{ℤ, pos, negsuc, ◌-ℤ◌, unsigned_abs, ◌==◌, if◌then◌else◌}
use Rattle.std.specs.Int.{int_shr}
use Rattle.std.proofs.Math.Nat.{mul_comm, mul_assoc, mul_left_comm, mul-add, add-mul}
use Rattle.std.proofs.lemmas.Nat.{mul-le, div-add-mod', mod_below, pow_pos, pow-add}
use Rattle.std.proofs.lemmas.Bool.{cases_lt}
use Rattle.std.proofs.lemmas.Bool.Decides.{nat_tests}
use Rattle.std.proofs.lemmas.Int.{ints}
use Rattle.mp_defs.specs.Distance.{squared_difference}
use Rattle.mp_sums.specs.Sums.{square_sum}
use Rattle.mp_sums.specs.Rounding.{rounded, widened, weight, widened_least}
use Rattle.mp_sums.specs.Laws.{RoundedSumsAreNear}
use Rattle.mp_sums.specs.SumLaws.{sum_of_none, sum_suc, sum_same}

-- how far two numbers lie apart
abbrev difference : ℤ → ℤ → ℕ
difference x y = unsigned_abs (x -ℤ y)

-- ---- one number

-- p is how often the unit goes into n, rounded down
record IsFloor (unit n p : ℕ) : Type 0 where
  below : p * unit ≤ n
  above : n < p * unit + unit

is_floor : (g n : ℕ) → 1 ≤ g → IsFloor g n (n / g)
is_floor g n some = record {
  below = omega (arith, div-add-mod' n g);
  above = omega (arith, div-add-mod' n g, mod_below n g some);
}

ordered_near : (g a b p q : ℕ) → p ≤ q → IsFloor g a p → IsFloor g b q
    → difference (pos p) (pos q) * g + 1 ≤ difference (pos a) (pos b) + g
ordered_near g a b p q le f h =
    let e : difference (pos p) (pos q) ≡ q - p = omega (arith, ints) in
    let k : q ≡ p + (q - p) = omega arith in
    let parts : q * g ≡ p * g + (q - p) * g = ap (λ n. n * g) k ∙ add-mul p (q - p) g in
    rw e (omega (arith, ints, parts, f.below, f.above, h.below, h.above))

difference_same : (x y : ℤ) → difference x y ≡ difference y x
difference_same x y = omega (arith, ints)

floors_near : (g a b p q : ℕ) → IsFloor g a p → IsFloor g b q
    → difference (pos p) (pos q) * g + 1 ≤ difference (pos a) (pos b) + g
floors_near g a b p q f h = elim (cases_lt p q) [
  | inl lt ↦ ordered_near g a b p q (omega arith) f h
  | inr le ↦ rw (difference_same (pos p) (pos q), difference_same (pos a) (pos b)) (ordered_near g b a q p le h f)
]

-- below 0 numbers are counted from -1 downwards
difference_below : (p q : ℕ) → difference (negsuc p) (negsuc q) ≡ difference (pos p) (pos q)
difference_below p q = omega (arith, ints)

difference_across : (p q : ℕ) → difference (pos p) (negsuc q) ≡ p + q + 1
difference_across p q = omega (arith, ints)

across_near : (g a b p q : ℕ) → IsFloor g a p → IsFloor g b q
    → difference (pos p) (negsuc q) * g + 1 ≤ difference (pos a) (negsuc b) + g
across_near g a b p q f h =
    let parts : (p + q + 1) * g ≡ p * g + q * g + g = omega (arith, add-mul (p + q) 1 g, add-mul p q g) in
    rw (difference_across p q, difference_across a b) (omega (arith, parts, f.below, h.below))

rounded_near : (shift : ℕ) (u v : ℤ)
    → difference (int_shr u shift) (int_shr v shift) * 2 ^ shift + 1 ≤ difference u v + 2 ^ shift
rounded_near shift (pos a) (pos b) =
    let g = 2 ^ shift in
    floors_near g a b (a / g) (b / g) (is_floor g a (pow_pos shift)) (is_floor g b (pow_pos shift))
rounded_near shift (negsuc a) (negsuc b) =
    let g = 2 ^ shift in
    rw (difference_below (a / g) (b / g), difference_below a b)
    (floors_near g a b (a / g) (b / g) (is_floor g a (pow_pos shift)) (is_floor g b (pow_pos shift)))
rounded_near shift (pos a) (negsuc b) =
    let g = 2 ^ shift in
    across_near g a b (a / g) (b / g) (is_floor g a (pow_pos shift)) (is_floor g b (pow_pos shift))
rounded_near shift (negsuc a) (pos b) =
    let g = 2 ^ shift in
    rw (difference_same (negsuc (a / g)) (pos (b / g)), difference_same (negsuc a) (pos b))
    (across_near g b a (b / g) (a / g) (is_floor g b (pow_pos shift)) (is_floor g a (pow_pos shift)))

-- ---- squares

-- (b + c)² + b² is 2 (b + c) b and c² more
squares_apart : (b c : ℕ) → (b + c) * (b + c) + b * b ≡ 2 * ((b + c) * b) + c * c
squares_apart b c = omega (arith, add-mul b c (b + c), mul-add b b c, mul-add c b c, mul_comm c b, add-mul b c b)

two_ordered : (a b : ℕ) → b ≤ a → 2 * (a * b) ≤ a * a + b * b
two_ordered a b le =
    let e : b + (a - b) ≡ a = omega arith in
    subst (λ k. 2 * (k * b) ≤ k * k + b * b) e (omega (arith, squares_apart b (a - b)))

two_products : (a b : ℕ) → 2 * (a * b) ≤ a * a + b * b
two_products a b = elim (cases_lt a b) [
  | inl lt ↦ omega (arith, two_ordered b a (omega arith), mul_comm a b)
  | inr le ↦ two_ordered a b le
]

-- w (d + c)² ≤ (w + 1) d² + w (w + 1) c²
weighted : (w d c : ℕ) → w * ((d + c) * (d + c)) ≤ (w + 1) * (d * d) + w * ((w + 1) * (c * c))
weighted w d c =
    let two : 2 * (d * (w * c)) ≤ d * d + (w * c) * (w * c) = two_products d (w * c) in
    let e : (d + c) * (d + c) ≡ d * d + 2 * (d * c) + c * c =
    omega (arith, add-mul d c (d + c), mul-add d d c, mul-add c d c, mul_comm c d) in
    let f : w * (d * d + 2 * (d * c) + c * c) ≡ w * (d * d) + w * (2 * (d * c)) + w * (c * c) =
    omega (arith, mul-add w (d * d + 2 * (d * c)) (c * c), mul-add w (d * d) (2 * (d * c))) in
    let k : w * (2 * (d * c)) ≡ 2 * (d * (w * c)) =
    mul_left_comm w 2 (d * c) ∙ ap (λ n. 2 * n) (mul_left_comm w d c) in
    let l : (w * c) * (w * c) ≡ w * (w * (c * c)) = mul_assoc w c (w * c) ∙ ap (λ n. w * n) (mul_left_comm c w c) in
    let o : w * ((w + 1) * (c * c)) ≡ w * (w * (c * c)) + w * (c * c) =
    ap (λ n. w * n) (add-mul w 1 (c * c)) ∙ omega (arith, mul-add w (w * (c * c)) (1 * (c * c))) in
    let r : (w + 1) * (d * d) ≡ w * (d * d) + d * d = omega (arith, add-mul w 1 (d * d)) in
    omega (arith, two, e, f, k, l, o, r, ap (λ n. w * n) e)

-- one square: what rounding takes is less than a unit
one_square : (w e d g : ℕ) → e * g + 1 ≤ d + g → w * (g * g * (e * e)) ≤ (w + 1) * (d * d) + w * ((w + 1) * (g * g))
one_square w e d g le =
    let all : e * g ≤ d + g = omega arith in
    let squares : g * g * (e * e) ≡ (e * g) * (e * g) =
    omega (
      arith,
      mul_assoc g g (e * e),
      mul_left_comm g e e,
      mul_assoc e g (e * g),
      mul_left_comm g e g,
      ap (λ n. g * n) (mul_left_comm g e e),
      mul_left_comm g e (g * e),
      ap (λ n. e * n) (mul_left_comm g e g),
      mul_comm e g,
    ) in
    let below : (e * g) * (e * g) ≤ (d + g) * (d + g) = mul-le _ _ _ _ all all in
    let times : w * ((e * g) * (e * g)) ≤ w * ((d + g) * (d + g)) = mul-le w _ w _ (omega arith) below in
    omega (arith, times, ap (λ n. w * n) squares, weighted w d g)

-- ---- sums

sums_near : (w g m : ℕ) (x x' : ℕ → ℤ) (i : ℕ) (y y' : ℕ → ℤ) (j : ℕ)
    → ((p q : ℕ) → difference (x' p) (y' q) * g + 1 ≤ difference (x p) (y q) + g)
    → w * (g * g * square_sum m x' i y' j) ≤ (w + 1) * square_sum m x i y j + w * ((w + 1) * (m * (g * g)))
sums_near w g zero x x' i y y' j h = rw (sum_of_none x' i y' j, sum_of_none x i y j) (omega arith)
sums_near w g (suc m) x x' i y y' j h =
    let here : suc m * (g * g) ≡ m * (g * g) + g * g = omega (arith, add-mul m 1 (g * g)) in
    let s = square_sum m x i y j in
    let s' = square_sum m x' i y' j in
    let d = squared_difference (x (i + m)) (y (j + m)) in
    let d' = squared_difference (x' (i + m)) (y' (j + m)) in
    rw (
      sum_suc m x' i y' j,
      sum_suc m x i y j,
      here,
      mul-add (g * g) s' d',
      mul-add w (g * g * s') (g * g * d'),
      mul-add (w + 1) s d,
      mul-add (w + 1) (m * (g * g)) (g * g),
      mul-add w ((w + 1) * (m * (g * g))) ((w + 1) * (g * g)),
    )
    (omega (
      arith,
      sums_near w g m x x' i y y' j h,
      one_square w (difference (x' (i + m)) (y' (j + m))) (difference (x (i + m)) (y (j + m))) g (h (i + m) (j + m)),
    ))

-- ---- thresholds

-- q squares of the unit within d and what is lost, where d lies below a + 1 of them
in_units : (w h q d a m : ℕ) → 1 ≤ h → w * (h * q) ≤ (w + 1) * d + w * ((w + 1) * (m * h)) → d < (a + 1) * h
    → w * q < (w + 1) * (a + 1) + w * ((w + 1) * m)
in_units w h q d a m some le lt =
    let e : w * (h * q) ≡ (w * q) * h = omega (arith, mul_comm h q, mul_assoc w q h, ap (λ n. w * n) (mul_comm h q)) in
    let f : w * ((w + 1) * (m * h)) ≡ (w * ((w + 1) * m)) * h =
    ap (λ n. w * n) (sym (mul_assoc (w + 1) m h)) ∙ sym (mul_assoc w ((w + 1) * m) h) in
    let k : (w + 1) * (d + 1) ≤ (w + 1) * ((a + 1) * h) =
    mul-le (w + 1) (d + 1) (w + 1) ((a + 1) * h) (omega arith) (omega arith) in
    let l : (w + 1) * ((a + 1) * h) ≡ ((w + 1) * (a + 1)) * h = sym (mul_assoc (w + 1) (a + 1) h) in
    let n : (w + 1) * (d + 1) ≡ (w + 1) * d + (w + 1) = omega (arith, mul-add (w + 1) d 1) in
    let all : ((w + 1) * (a + 1) + w * ((w + 1) * m)) * h ≡ ((w + 1) * (a + 1)) * h + (w * ((w + 1) * m)) * h =
    add-mul ((w + 1) * (a + 1)) (w * ((w + 1) * m)) h in
    let less : (w * q) * h < ((w + 1) * (a + 1) + w * ((w + 1) * m)) * h = omega (arith, e, f, k, l, n, all) in
    elim (cases_lt (w * q) ((w + 1) * (a + 1) + w * ((w + 1) * m))) [
      | inl is ↦ is
      | inr ge ↦ absurd (omega (
        arith,
        mul-le ((w + 1) * (a + 1) + w * ((w + 1) * m)) h (w * q) h ge (omega arith),
      ))
    ]

-- divided by the weight
by_weight : (w q a m : ℕ) → 1 ≤ w → w * q < (w + 1) * (a + 1) + w * ((w + 1) * m) → q ≤ widened m w a
by_weight w q a m some lt = elim (cases_lt (widened m w a) q) [
  | inl more ↦
      let r : ℕ = a / w in
      let e : w * (r + (a + 1) + (w + 1) * m + 1) ≤ w * q =
      mul-le w (r + (a + 1) + (w + 1) * m + 1) w q (omega arith)
      (omega (arith, more, add-mul w 1 m, mul_comm m w)) in
      let parts : w * (r + (a + 1) + (w + 1) * m + 1) ≡ w * r + w * (a + 1) + w * ((w + 1) * m) + w =
      omega (
        arith,
        mul-add w (r + (a + 1) + (w + 1) * m) 1,
        mul-add w (r + (a + 1)) ((w + 1) * m),
        mul-add w r (a + 1),
      ) in
      let f : (w + 1) * (a + 1) ≡ w * (a + 1) + (a + 1) = omega (arith, add-mul w 1 (a + 1)) in
      absurd (omega (arith, e, parts, f, lt, div-add-mod' a w, mod_below a w some, mul_comm w r))
  | inr le ↦ le
]

square_of_unit : (shift : ℕ) → 2 ^ (2 * shift) ≡ 2 ^ shift * 2 ^ shift
square_of_unit shift =
    let e : 2 * shift ≡ shift + shift = omega arith in
    ap (λ n. 2 ^ n) e ∙ pow-add 2 shift shift

-- by any weight
pub within_widened : (m shift w limit : ℕ) (x : ℕ → ℤ) (i : ℕ) (y : ℕ → ℤ) (j : ℕ) → 1 ≤ w
    → square_sum m x i y j ≤ limit
    → square_sum m (rounded shift x) i (rounded shift y) j ≤ widened m w (limit / 2 ^ (2 * shift))
within_widened m shift w limit x i y j some le =
    let g : ℕ = 2 ^ shift in
    let h : ℕ = 2 ^ (2 * shift) in
    let same : h ≡ g * g = square_of_unit shift in
    let below : limit < (limit / h + 1) * h =
    omega (arith, div-add-mod' limit h, mod_below limit h (pow_pos (2 * shift)), add-mul (limit / h) 1 h) in
    let near = sums_near w g m x (rounded shift x) i y (rounded shift y) j (λ p q. rounded_near shift (x p) (y q)) in
    by_weight w (square_sum m (rounded shift x) i (rounded shift y) j) (limit / h) m some
    (in_units w h (square_sum m (rounded shift x) i (rounded shift y) j) (square_sum m x i y j) (limit / h) m
    (pow_pos (2 * shift))
    (subst (λ n. w * (n * square_sum m (rounded shift x) i (rounded shift y) j)
    ≤ (w + 1) * square_sum m x i y j + w * ((w + 1) * (m * n))) (sym same) near)
    (omega (arith, le, below)))

-- without rounding nothing is lost
whole : (n : ℕ) → n / 1 ≡ n
whole n = omega (arith, div-add-mod' n 1, mod_below n 1 (omega arith))

pub not_rounded : (z : ℤ) → int_shr z 0 ≡ z
not_rounded (pos n) = ap pos (whole n)
not_rounded (negsuc n) = ap negsuc (whole n)

by_test : (b : Bool) (q s t : ℕ) → (b ≡ true → q ≤ s) → (b ≡ false → q ≤ t) → q ≤ (if b then s else t)
by_test true q s t h k = h refl
by_test false q s t h k = k refl

none_shifted : (shift : ℕ) → (shift == 0) ≡ true → shift ≡ 0
none_shifted shift e = grind (arith, nat_tests)

pub rounded_sums_are_near : RoundedSumsAreNear
rounded_sums_are_near m shift limit x i y j le =
    by_test (shift == 0) (square_sum m (rounded shift x) i (rounded shift y) j) limit
    (widened_least m (limit / 2 ^ (2 * shift)))
    (λ e.
    let none : shift ≡ 0 = none_shifted shift e in
    let same : square_sum m (rounded 0 x) i (rounded 0 y) j ≡ square_sum m x i y j =
    sum_same m (rounded 0 x) x i (rounded 0 y) y j (λ k _. not_rounded (x (i + k))) (λ k _. not_rounded (y (j + k))) in
    subst (λ n. square_sum m (rounded n x) i (rounded n y) j ≤ limit) (sym none) (omega (arith, same, le)))
    (λ _. within_widened m shift (2 ^ weight m (limit / 2 ^ (2 * shift))) limit x i y j
    (pow_pos (weight m (limit / 2 ^ (2 * shift)))) le)
