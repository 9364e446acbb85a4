-- What the coarse sums of a block tell of its pairs.
use Rattle.std.proofs.Common.{◌≡◌, ℕ, zero, suc, ◌+◌, ◌-◌, ◌*◌, ◌^◌, ◌<◌, ◌≤◌, inl, inr, length, sym, ap, ◌∙◌, arith}
use Rattle.std.proofs.Common.{subst}
use Rattle.std.specs.Prelude.{Some, true, nat_le}
use Rattle.std.proofs.Math.Nat.{mul_comm, mul_assoc, mul_left_comm, mul-add, add-mul}
use Rattle.std.proofs.lemmas.Nat.{mul-le}
use Rattle.std.proofs.lemmas.Bool.{cases_lt}
use Rattle.std.proofs.lemmas.Bool.Decides.{nat_tests}
use Rattle.std.proofs.lemmas.List.{length-map}
use Rattle.mp_defs.specs.Series.{series_of, reading_of}
use Rattle.mp_scans.specs.Windows.{row_windows, column_windows}
use Rattle.mp_sums.specs.Grids.{distance_in}
use Rattle.mp_skips.specs.declared.sums.Coarse.{Coarse}
use Rattle.mp_skips.specs.declared.sums.TheConstants.{MOST_GRAINS, MOST_SUM}
use Rattle.mp_skips.specs.Totals.{total, gap, sum_from, squares_from, group_squares, level}
use Rattle.mp_skips.specs.Bounds.{IsFloor}
use Rattle.mp_skips.specs.Sums.{number_in, outside}
use Rattle.mp_skips.specs.Blocks.{height, outside_at, squares_outside, apart_at, squares_apart, AreApart}
use Rattle.mp_skips.proofs.TotalLemmas.{total_zero, total_suc, total_more, groups_below}
use Rattle.mp_skips.proofs.CoreLemmas.{raised_core_below}
use Rattle.mp_skips.proofs.FloorLemmas.{times_apart, floors_apart}
use Rattle.mp_skips.proofs.SideLemmas.{row_low, column_low, row_floors, column_floors, column_groups, all_floors}
use Rattle.mp_skips.proofs.SideLemmas.{all_column_floors, all_groups}

-- so many grains lie between two sums at least
outside_below : (g z w p least greatest : ℕ) → IsFloor g z p → (1 ≤ least → least * g + g ≤ w + 1) → w ≤ greatest * g
    → least ≤ greatest → outside p least greatest * g ≤ gap z w
outside_below g z w p least greatest f lower upper order = elim (cases_lt greatest p) [
  | inl lt ↦
      let e : outside p least greatest ≡ p - greatest = omega arith in
      rw e (omega (arith, times_apart g p greatest (omega arith), f.below, upper))
  | inr le ↦ elim (cases_lt p least) [
    | inl less ↦
        let e : outside p least greatest ≡ least - p = omega arith in
        rw e (omega (arith, times_apart g least p (omega arith), f.above, lower (omega arith)))
    | inr more ↦
        let e : outside p least greatest ≡ 0 = omega arith in
        rw e (omega arith)
  ]
]

-- the squares of numbers that a grain takes below others
pub scaled : (o d : ℕ → ℕ) (g n : ℕ) → ((k : ℕ) → k < n → o k * g ≤ d k)
    → total (λ k. o k * o k) n * (g * g) ≤ total (λ k. d k * d k) n
scaled o d g zero h = rw (total_zero (λ k. o k * o k)) (omega arith)
scaled o d g (suc n) h =
    let one : (o n * g) * (o n * g) ≤ d n * d n = mul-le _ _ _ _ (h n (omega arith)) (h n (omega arith)) in
    let e : (o n * g) * (o n * g) ≡ (o n * o n) * (g * g) =
    mul_assoc (o n) g (o n * g) ∙ ap (λ z. o n * z) (mul_left_comm g (o n) g) ∙ sym (mul_assoc (o n) (o n) (g * g)) in
    rw (
      total_suc (λ k. o k * o k) n,
      total_suc (λ k. d k * d k) n,
      add-mul (total (λ k. o k * o k) n) (o n * o n)
          (g * g),
    )
    (omega (arith, one, e, scaled o d g n (λ k lt. h k (omega (arith, lt)))))

-- a sum that is compared lies within a window
pub behind_within : (e n m t : ℕ) → (n + 1) * (8 * e) ≤ m → t < n → 8 * e * (t + 1) + 8 * e ≤ m
behind_within e n m t le lt =
    omega (
      arith,
      mul-le (t + 2) (8 * e) (n + 1) (8 * e) (omega arith) (omega arith),
      add-mul t 2 (8 * e),
      mul-add (8 * e) t 1,
      mul_comm (8 * e) t,
    )

pub behind_is : (e t : ℕ) → 8 * (e * (t + 1)) ≡ 8 * e * (t + 1)
behind_is e t = sym (mul_assoc 8 e (t + 1))

pub row_place : (coarse : Coarse) (i t : ℕ) → t < coarse.terms
    → i + coarse.plan.grid.m ≤ length coarse.plan.grid.rows.now
    → i + 8 * (coarse.rows.units.eights * (t + 1)) < length coarse.rows.floors.now
row_place coarse i t lt row =
    omega (
      arith,
      behind_within coarse.rows.units.eights coarse.terms coarse.plan.grid.m t coarse.wide lt,
      behind_is coarse.rows.units.eights t,
      row,
      coarse.rows.units.some,
      all_floors coarse,
    )

pub column_place : (coarse : Coarse) (g t : ℕ) → t < coarse.terms
    → 8 * g + coarse.plan.grid.m ≤ length coarse.plan.grid.columns.now
    → g + coarse.rows.units.eights * (t + 1) < length coarse.columns.least.now
column_place coarse g t lt column =
    omega (
      arith,
      behind_within coarse.rows.units.eights coarse.terms coarse.plan.grid.m t coarse.wide lt,
      behind_is coarse.rows.units.eights t,
      column,
      coarse.rows.units.some,
      all_groups coarse,
    )

row_sum : (i e t : ℕ) → i + 8 * (e * (t + 1)) ≡ i + 8 * e + t * (8 * e)
row_sum i e t = omega (arith, behind_is e t, mul-add (8 * e) t 1, mul_comm (8 * e) t)

column_sum : (g e u t : ℕ) → 8 * (g + e * (t + 1)) + u ≡ 8 * g + u + 8 * e + t * (8 * e)
column_sum g e u t =
    omega (
      arith,
      mul-add 8 g (e * (t + 1)),
      mul-add e t 1,
      mul-add 8 (e * t) e,
      mul_left_comm 8 t e,
      mul_comm e t,
      ap (λ n. 8 * n) (mul_comm e t),
      ap (λ n. 8 * n) (mul-add e t 1),
    )

-- one sum of the first row and those of a column
term_below : (coarse : Coarse) (i g u t : ℕ) → u < 8 → t < coarse.terms
    → i + coarse.plan.grid.m ≤ length coarse.plan.grid.rows.now
    → 8 * g + coarse.plan.grid.m ≤ length coarse.plan.grid.columns.now
    → outside_at coarse i g t * coarse.rows.units.grain.size
    ≤ gap (sum_from (level coarse.rows.units.low (series_of coarse.plan.grid.rows.now)) (height coarse)
    (i + height coarse + t * height coarse))
    (sum_from (level coarse.rows.units.low (series_of coarse.plan.grid.columns.now)) (height coarse)
    (8 * g + u + height coarse + t * height coarse))
term_below coarse i g u t lt tn row column =
    let x = level coarse.rows.units.low (series_of coarse.plan.grid.rows.now) in
    let y = level coarse.rows.units.low (series_of coarse.plan.grid.columns.now) in
    let s = height coarse in
    let p = i + 8 * (coarse.rows.units.eights * (t + 1)) in
    let q = g + coarse.rows.units.eights * (t + 1) in
    let floor = (row_floors coarse).each p (row_place coarse i t tn row) in
    let group = (column_groups coarse).each q (column_place coarse g t tn column) in
    let here = outside_below coarse.rows.units.grain.size (sum_from x s p) (sum_from y s (8 * q + u))
    (number_in coarse.rows.floors.now p)
    (number_in coarse.columns.least.now q) (number_in coarse.columns.greatest.now q) floor (group.lower u lt)
    (group.upper u lt)
    group.order in
    subst (λ n. outside_at coarse i g t * coarse.rows.units.grain.size ≤ gap (sum_from x s n)
    (sum_from y s (8 * g + u + height coarse + t * height coarse))) (row_sum i coarse.rows.units.eights t)
    (subst (λ n. outside_at coarse i g t * coarse.rows.units.grain.size ≤ gap (sum_from x s p) (sum_from y s n))
    (column_sum g coarse.rows.units.eights u t) here)

times_more : (t g s c d : ℕ) → t ≤ g → g ≤ s * c → c ≤ d → t ≤ s * d
times_more t g s c d a b e = omega (arith, a, b, mul-le s c s d (omega arith) e)

one_and_other : (a b c : ℕ) → a ≤ b → b ≤ c → a ≤ c
one_and_other a b c le le' = omega arith

pub sum_below : (coarse : Coarse) (i g r u d : ℕ) → i + coarse.plan.grid.m ≤ length coarse.plan.grid.rows.now
    → 8 * g + coarse.plan.grid.m ≤ length coarse.plan.grid.columns.now → r < height coarse → u < 8
    → distance_in coarse.plan.grid (i + r) (8 * g + u + r) ≡ Some d
    → squares_outside coarse i g coarse.terms * (coarse.rows.units.grain.size * coarse.rows.units.grain.size) ≤ height
    coarse * d
sum_below coarse i g r u d row column rk lt is =
    let a = series_of coarse.plan.grid.rows.now in
    let b = series_of coarse.plan.grid.columns.now in
    let x = level coarse.rows.units.low a in
    let y = level coarse.rows.units.low b in
    let s = height coarse in
    let m = coarse.plan.grid.m in
    let n = coarse.terms in
    let j = 8 * g + u in
    let wide : n * s + s ≤ m = omega (arith, add-mul n 1 s, coarse.wide) in
    let core = raised_core_below coarse.rows.units.low m s r a i b j d (row_low coarse) (column_low coarse)
    (omega (arith, rk))
    (omega (arith, wide)) is in
    let groups = groups_below x y s n (m - s) (i + s) (j + s) (omega (arith, wide)) in
    let terms = scaled (outside_at coarse i g) (λ t. gap (sum_from x s (i + s + t * s)) (sum_from y s (j + s + t * s)))
    coarse.rows.units.grain.size n (λ t tn. term_below coarse i g u t lt tn row column) in
    times_more (squares_outside coarse i g n * (coarse.rows.units.grain.size * coarse.rows.units.grain.size))
    (group_squares x y s n (i + s) (j + s)) s
    (squares_from x y (m - s) (i + s) (j + s)) d terms groups core

pub reached : (coarse : Coarse) (i g need : ℕ) → i + coarse.plan.grid.m ≤ length coarse.plan.grid.rows.now
    → 8 * g + coarse.plan.grid.m ≤ length coarse.plan.grid.columns.now
    → need ≤ squares_outside coarse i g coarse.terms → AreApart coarse i (8 * g) 8 need
reached coarse i g need row column le = record {
  each = λ r u d rk lt is.
      let grains = coarse.rows.units.grain.size * coarse.rows.units.grain.size in
      one_and_other (need * grains) (squares_outside coarse i g coarse.terms * grains) (height coarse * d)
      (mul-le need grains (squares_outside coarse i g coarse.terms) grains le (omega arith))
      (sum_below coarse i g r u d row column rk lt is);
}

-- ---- sums stay small

pub few_terms : (n e m : ℕ) → 1 ≤ e → (n + 1) * (8 * e) ≤ m → 8 * n + 8 ≤ m
few_terms n e m some le =
    omega (arith, mul-le (n + 1) 8 (n + 1) (8 * e) (omega arith) (omega (arith, some)), le)

outside_small : (p least greatest most : ℕ) → least ≤ greatest → p ≤ most → greatest ≤ most
    → outside p least greatest ≤ most
outside_small p least greatest most order a b = omega (arith, order, a, b)

pub term_small : (coarse : Coarse) (i g t : ℕ) → t < coarse.terms
    → 8 * g + coarse.plan.grid.m ≤ length coarse.plan.grid.columns.now → outside_at coarse i g t ≤ MOST_GRAINS
term_small coarse i g t tn column =
    let q = g + coarse.rows.units.eights * (t + 1) in
    let group = (column_groups coarse).each q (column_place coarse g t tn column) in
    outside_small (number_in coarse.rows.floors.now (i + 8 * (coarse.rows.units.eights * (t + 1))))
    (number_in coarse.columns.least.now q)
    (number_in coarse.columns.greatest.now q) MOST_GRAINS group.order
    (coarse.rows.lists.small_floors (i + 8 * (coarse.rows.units.eights * (t + 1))))
    (coarse.columns.lists.small_groups q)

pub more_small : (sum t gap : ℕ) → sum ≤ t * (MOST_GRAINS * MOST_GRAINS) → gap ≤ MOST_GRAINS
    → sum + gap * gap ≤ (t + 1) * (MOST_GRAINS * MOST_GRAINS)
more_small sum t gap small here =
    omega (arith, add-mul t 1 (MOST_GRAINS * MOST_GRAINS), mul-le gap gap MOST_GRAINS MOST_GRAINS here here, small)

pub all_small : (sum t m : ℕ) → sum ≤ t * (MOST_GRAINS * MOST_GRAINS) → 8 * t + 8 ≤ m → m ≤ 16384 → sum < MOST_SUM
all_small sum t m small few short = omega (arith, small, few, short)

pub order_there : (coarse : Coarse) (g t : ℕ) → t < coarse.terms
    → 8 * g + coarse.plan.grid.m ≤ length coarse.plan.grid.columns.now
    → number_in coarse.columns.least.now (g + coarse.rows.units.eights * (t + 1))
    ≤ number_in coarse.columns.greatest.now (g + coarse.rows.units.eights * (t + 1))
order_there coarse g t tn column =
    ((column_groups coarse).each (g + coarse.rows.units.eights * (t + 1)) (column_place coarse g t tn column)).order

pub sum_small : (coarse : Coarse) (sum t : ℕ) → sum ≤ t * (MOST_GRAINS * MOST_GRAINS) → t ≤ coarse.terms
    → sum < MOST_SUM
sum_small coarse sum t small le =
    all_small sum t coarse.plan.grid.m small
    (omega (
      arith,
      le,
      few_terms coarse.terms coarse.rows.units.eights coarse.plan.grid.m coarse.rows.units.some
          coarse.wide,
    ))
    (omega (arith, coarse.plan.grid.short))

pub square_small : (gap : ℕ) → gap ≤ MOST_GRAINS → gap * gap ≤ MOST_GRAINS * MOST_GRAINS
square_small gap le = mul-le gap gap MOST_GRAINS MOST_GRAINS le le

pub tested : (x y : ℕ) → nat_le x y ≡ true → x ≤ y
tested x y e = grind (arith, nat_tests)

-- ---- eight groups at once

pub lane_column : (coarse : Coarse) (group k : ℕ) → k < 8
    → 8 * group + 56 + coarse.plan.grid.m ≤ length coarse.plan.grid.columns.now
    → 8 * (group + k) + coarse.plan.grid.m ≤ length coarse.plan.grid.columns.now
lane_column coarse group k lt le = omega (arith, lt, le)

lane_at : (group e t k : ℕ) → group + e * (t + 1) + k ≡ group + k + e * (t + 1)
lane_at group e t k = omega arith

pub lane_place : (coarse : Coarse) (group t : ℕ) → t < coarse.terms
    → 8 * group + 56 + coarse.plan.grid.m ≤ length coarse.plan.grid.columns.now
    → group + coarse.rows.units.eights * (t + 1) + 8 ≤ length coarse.columns.least.now
lane_place coarse group t tn le =
    omega (
      arith,
      column_place coarse (group + 7) t tn (lane_column coarse group 7 (omega arith) le),
      lane_at group coarse.rows.units.eights t 7,
    )

pub lane_order : (coarse : Coarse) (group t k : ℕ) → k < 8 → t < coarse.terms
    → 8 * (group + k) + coarse.plan.grid.m ≤ length coarse.plan.grid.columns.now
    → number_in coarse.columns.least.now (group + coarse.rows.units.eights * (t + 1) + k)
    ≤ number_in coarse.columns.greatest.now (group + coarse.rows.units.eights * (t + 1) + k)
lane_order coarse group t k lt tn column =
    subst (λ p. number_in coarse.columns.least.now p ≤ number_in coarse.columns.greatest.now p)
    (sym (lane_at group coarse.rows.units.eights t k)) (order_there coarse (group + k) t tn column)

-- how far a sum of the row lies outside of those of one of the groups
abbrev lane_outside : Coarse → ℕ → ℕ → ℕ → ℕ → ℕ
lane_outside coarse row group t k =
    outside (number_in coarse.rows.floors.now (row + 8 * (coarse.rows.units.eights * (t + 1))))
    (number_in coarse.columns.least.now (group + coarse.rows.units.eights * (t + 1) + k))
    (number_in coarse.columns.greatest.now (group + coarse.rows.units.eights * (t + 1) + k))

lane_is : (coarse : Coarse) (row group t k : ℕ)
    → lane_outside coarse row group t k ≡ outside_at coarse row (group + k) t
lane_is coarse row group t k =
    ap (λ p. outside (number_in coarse.rows.floors.now (row + 8 * (coarse.rows.units.eights * (t + 1))))
    (number_in coarse.columns.least.now p) (number_in coarse.columns.greatest.now p))
    (lane_at group coarse.rows.units.eights t k)

pub lane_more : (coarse : Coarse) (row group t k sum : ℕ) → sum ≡ squares_outside coarse row (group + k) t
    → sum + lane_outside coarse row group t k * lane_outside coarse row group t k
    ≡ squares_outside coarse row (group + k) (t + 1)
lane_more coarse row group t k sum is =
    ap (λ n. n + lane_outside coarse row group t k * lane_outside coarse row group t k) is
    ∙ ap (λ n. squares_outside coarse row (group + k) t + n * n) (lane_is coarse row group t k)
    ∙ sym (total_more (λ n. outside_at coarse row (group + k) n * outside_at coarse row (group + k) n) t)

pub lane_more_small : (coarse : Coarse) (row group t k sum : ℕ) → k < 8 → t < coarse.terms
    → 8 * (group + k) + coarse.plan.grid.m ≤ length coarse.plan.grid.columns.now
    → sum ≤ t * (MOST_GRAINS * MOST_GRAINS)
    → sum + lane_outside coarse row group t k * lane_outside coarse row group t k
    ≤ (t + 1) * (MOST_GRAINS * MOST_GRAINS)
lane_more_small coarse row group t k sum lt tn column small =
    subst (λ n. sum + n * n ≤ (t + 1) * (MOST_GRAINS * MOST_GRAINS)) (sym (lane_is coarse row group t k))
    (more_small sum t (outside_at coarse row (group + k) t) small (term_small coarse row (group + k) t tn column))

pub lane_small : (coarse : Coarse) (row group t k sum : ℕ) → k < 8 → t < coarse.terms
    → 8 * (group + k) + coarse.plan.grid.m ≤ length coarse.plan.grid.columns.now
    → sum ≤ t * (MOST_GRAINS * MOST_GRAINS)
    → sum + lane_outside coarse row group t k * lane_outside coarse row group t k < 2 ^ 63
lane_small coarse row group t k sum lt tn column small =
    omega (
      arith,
      sum_small coarse (sum + lane_outside coarse row group t k * lane_outside coarse row group t k) (t + 1)
          (lane_more_small coarse row group t k sum lt tn column small) (omega (arith, tn)),
    )

-- ---- windows lie in their series

pub row_within : (coarse : Coarse) (row : ℕ) → row < row_windows coarse.plan.grid
    → row + coarse.plan.grid.m ≤ length coarse.plan.grid.rows.now
row_within coarse row lt =
    omega (arith, lt, coarse.plan.some_samples, length-map coarse.plan.grid.rows.now reading_of)

pub column_within : (coarse : Coarse) (column : ℕ) → column < column_windows coarse.plan.grid
    → column + coarse.plan.grid.m ≤ length coarse.plan.grid.columns.now
column_within coarse column lt =
    omega (arith, lt, coarse.plan.some_samples, length-map coarse.plan.grid.columns.now reading_of)

-- ---- one diagonal

diagonal_place : (coarse : Coarse) (j t : ℕ) → t < coarse.terms
    → j + coarse.plan.grid.m ≤ length coarse.plan.grid.columns.now
    → j + 8 * (coarse.rows.units.eights * (t + 1)) < length coarse.columns.floors.now
diagonal_place coarse j t lt column =
    omega (
      arith,
      behind_within coarse.rows.units.eights coarse.terms coarse.plan.grid.m t coarse.wide lt,
      behind_is coarse.rows.units.eights t,
      column,
      coarse.rows.units.some,
      all_column_floors coarse,
    )

apart_below : (coarse : Coarse) (i j t : ℕ) → t < coarse.terms
    → i + coarse.plan.grid.m ≤ length coarse.plan.grid.rows.now
    → j + coarse.plan.grid.m ≤ length coarse.plan.grid.columns.now
    → apart_at coarse i j t * coarse.rows.units.grain.size
    ≤ gap (sum_from (level coarse.rows.units.low (series_of coarse.plan.grid.rows.now)) (height coarse)
    (i + height coarse + t * height coarse))
    (sum_from (level coarse.rows.units.low (series_of coarse.plan.grid.columns.now)) (height coarse)
    (j + height coarse + t * height coarse))
apart_below coarse i j t tn row column =
    let x = level coarse.rows.units.low (series_of coarse.plan.grid.rows.now) in
    let y = level coarse.rows.units.low (series_of coarse.plan.grid.columns.now) in
    let s = height coarse in
    let p = i + 8 * (coarse.rows.units.eights * (t + 1)) in
    let q = j + 8 * (coarse.rows.units.eights * (t + 1)) in
    let here = floors_apart coarse.rows.units.grain.size coarse.rows.units.grain.slack (sum_from x s p) (sum_from y s q)
    (number_in coarse.rows.floors.now p) (number_in coarse.columns.floors.now q) coarse.rows.units.grain.enough
    ((row_floors coarse).each p (row_place coarse i t tn row))
    ((column_floors coarse).each q (diagonal_place coarse j t tn column)) in
    subst (λ n. apart_at coarse i j t * coarse.rows.units.grain.size ≤ gap (sum_from x s n)
    (sum_from y s (j + height coarse + t * height coarse))) (row_sum i coarse.rows.units.eights t)
    (subst (λ n. apart_at coarse i j t * coarse.rows.units.grain.size ≤ gap (sum_from x s p) (sum_from y s n))
    (row_sum j coarse.rows.units.eights t) here)

diagonal_below : (coarse : Coarse) (i j r d : ℕ)
    → i + coarse.plan.grid.m ≤ length coarse.plan.grid.rows.now
    → j + coarse.plan.grid.m ≤ length coarse.plan.grid.columns.now → r < height coarse
    → distance_in coarse.plan.grid (i + r) (j + r) ≡ Some d
    → squares_apart coarse i j coarse.terms * (coarse.rows.units.grain.size * coarse.rows.units.grain.size) ≤ height
    coarse * d
diagonal_below coarse i j r d row column rk is =
    let a = series_of coarse.plan.grid.rows.now in
    let b = series_of coarse.plan.grid.columns.now in
    let x = level coarse.rows.units.low a in
    let y = level coarse.rows.units.low b in
    let s = height coarse in
    let m = coarse.plan.grid.m in
    let n = coarse.terms in
    let wide : n * s + s ≤ m = omega (arith, add-mul n 1 s, coarse.wide) in
    let core = raised_core_below coarse.rows.units.low m s r a i b j d (row_low coarse) (column_low coarse)
    (omega (arith, rk)) (omega (arith, wide)) is in
    let groups = groups_below x y s n (m - s) (i + s) (j + s) (omega (arith, wide)) in
    let terms = scaled (apart_at coarse i j) (λ t. gap (sum_from x s (i + s + t * s)) (sum_from y s (j + s + t * s)))
    coarse.rows.units.grain.size n (λ t tn. apart_below coarse i j t tn row column) in
    times_more (squares_apart coarse i j n * (coarse.rows.units.grain.size * coarse.rows.units.grain.size))
    (group_squares x y s n (i + s) (j + s)) s (squares_from x y (m - s) (i + s) (j + s)) d terms groups core

pub diagonal_reached : (coarse : Coarse) (i j need : ℕ)
    → i + coarse.plan.grid.m ≤ length coarse.plan.grid.rows.now
    → j + coarse.plan.grid.m ≤ length coarse.plan.grid.columns.now
    → need ≤ squares_apart coarse i j coarse.terms → AreApart coarse i j 1 need
diagonal_reached coarse i j need row column le = record {
  each = λ r u d rk lt is.
      let grains = coarse.rows.units.grain.size * coarse.rows.units.grain.size in
      let place : j + u + r ≡ j + r = omega (arith, lt) in
      one_and_other (need * grains) (squares_apart coarse i j coarse.terms * grains) (height coarse * d)
      (mul-le need grains (squares_apart coarse i j coarse.terms) grains le (omega arith))
      (diagonal_below coarse i j r d row column rk
      (subst (λ n. distance_in coarse.plan.grid (i + r) n ≡ Some d) place is));
}

-- whatever reaches nothing
pub nothing_reached : (coarse : Coarse) (i j n need : ℕ) → need ≤ 0 → AreApart coarse i j n need
nothing_reached coarse i j n need le = record {
  each = λ r u d rk lt is.
      let grains = coarse.rows.units.grain.size * coarse.rows.units.grain.size in
      let none : need * grains ≤ 0 * grains = mul-le need grains 0 grains le (omega arith) in
      omega (arith, none);
}

apart_lane_at : (column e t u : ℕ) → column + 8 * (e * (t + 1)) + u ≡ column + u + 8 * (e * (t + 1))
apart_lane_at column e t u = omega arith

abbrev lane_apart : Coarse → ℕ → ℕ → ℕ → ℕ → ℕ
lane_apart coarse row column t u =
    outside (number_in coarse.rows.floors.now (row + 8 * (coarse.rows.units.eights * (t + 1))))
    (number_in coarse.columns.floors.now (column + 8 * (coarse.rows.units.eights * (t + 1)) + u))
    (number_in coarse.columns.floors.now (column + 8 * (coarse.rows.units.eights * (t + 1)) + u)) -
    coarse.rows.units.grain.slack

apart_lane_is : (coarse : Coarse) (row column t u : ℕ)
    → lane_apart coarse row column t u ≡ apart_at coarse row (column + u) t
apart_lane_is coarse row column t u =
    ap (λ p. outside (number_in coarse.rows.floors.now (row + 8 * (coarse.rows.units.eights * (t + 1))))
    (number_in coarse.columns.floors.now p) (number_in coarse.columns.floors.now p) - coarse.rows.units.grain.slack)
    (apart_lane_at column coarse.rows.units.eights t u)

pub apart_lane_place : (coarse : Coarse) (column t : ℕ) → t < coarse.terms
    → column + 7 + coarse.plan.grid.m ≤ length coarse.plan.grid.columns.now
    → column + 8 * (coarse.rows.units.eights * (t + 1)) + 8 ≤ length coarse.columns.floors.now
apart_lane_place coarse column t tn le =
    omega (
      arith,
      diagonal_place coarse (column + 7) t tn (omega (arith, le)),
      apart_lane_at column coarse.rows.units.eights t 7,
    )

pub apart_lane_more : (coarse : Coarse) (row column t u sum : ℕ) → sum ≡ squares_apart coarse row (column + u) t
    → sum + lane_apart coarse row column t u * lane_apart coarse row column t u
    ≡ squares_apart coarse row (column + u) (t + 1)
apart_lane_more coarse row column t u sum is =
    ap (λ n. n + lane_apart coarse row column t u * lane_apart coarse row column t u) is
    ∙ ap (λ n. squares_apart coarse row (column + u) t + n * n) (apart_lane_is coarse row column t u)
    ∙ sym (total_more (λ n. apart_at coarse row (column + u) n * apart_at coarse row (column + u) n) t)

pub apart_more_small : (coarse : Coarse) (row column t u sum : ℕ) → sum ≤ t * (MOST_GRAINS * MOST_GRAINS)
    → sum + lane_apart coarse row column t u * lane_apart coarse row column t u
    ≤ (t + 1) * (MOST_GRAINS * MOST_GRAINS)
apart_more_small coarse row column t u sum small =
    let p = row + 8 * (coarse.rows.units.eights * (t + 1)) in
    let q = column + 8 * (coarse.rows.units.eights * (t + 1)) + u in
    more_small sum t (lane_apart coarse row column t u) small
    (omega (
      arith,
      outside_small (number_in coarse.rows.floors.now p) (number_in coarse.columns.floors.now q)
          (number_in coarse.columns.floors.now q) MOST_GRAINS (omega arith) (coarse.rows.lists.small_floors p)
          (coarse.columns.lists.small_floors q),
    ))

pub apart_small : (coarse : Coarse) (row column t u sum : ℕ) → t < coarse.terms
    → sum ≤ t * (MOST_GRAINS * MOST_GRAINS)
    → sum + lane_apart coarse row column t u * lane_apart coarse row column t u < 2 ^ 63
apart_small coarse row column t u sum tn small =
    omega (
      arith,
      sum_small coarse (sum + lane_apart coarse row column t u * lane_apart coarse row column t u) (t + 1)
          (apart_more_small coarse row column t u sum small) (omega (arith, tn)),
    )
