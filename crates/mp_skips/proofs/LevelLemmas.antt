-- Sums of squared differences of rounded numbers, by parts and along a diagonal.
use Rattle.std.proofs.Common.{◌≡◌, ℕ, ◌+◌, ◌-◌, ◌*◌, ◌%◌, ◌^◌, ◌<◌, ◌≤◌, inl, inr, List, length, set, refl, sym, ap}
use Rattle.std.proofs.Common.{arith, subst, ◌∙◌}
use Rattle.std.proofs.Math.Nat.{add-mul, mod-eq_of_lt, mul-add, mul_comm}
use Rattle.std.proofs.lemmas.Nat.{mod-mul-add, mul-le}
use Rattle.std.proofs.lemmas.Bool.{cases_lt, cases_eq}
use Rattle.std.proofs.lemmas.List.{length-map, get_or-set_same, get_or-set_other}
use Rattle.std.specs.Prelude.{Some}
use Rattle.mp_defs.specs.Series.{series_of, reading_of}
use Rattle.mp_scans.specs.Windows.{row_windows, column_windows}
use Rattle.mp_sums.specs.Grids.{distance_in}
use Rattle.mp_skips.specs.declared.sums.Coarse.{Coarse}
use Rattle.mp_skips.specs.declared.sums.Units.{Units}
use Rattle.mp_skips.specs.declared.sums.TheConstants.{MOST_GRAINS, NO_NEED}
use Rattle.mp_skips.specs.Totals.{total, gap, square_gap, squares_from, level}
use Rattle.mp_skips.specs.Sums.{number_in}
use Rattle.mp_skips.specs.Bounds.{IsFloor}
use Rattle.mp_skips.specs.Levels.{steps_apart, square_at, squares_in}
use Rattle.mp_skips.proofs.TotalLemmas.{total_zero, total_more, total_same, total_parts, total_first}
use Rattle.mp_skips.specs.Blocks.{height, AreApart}
use Rattle.mp_skips.specs.Needs.{IsMost}
use Rattle.mp_skips.proofs.CoreLemmas.{distance_raised, raised_core_below}
use Rattle.mp_skips.proofs.SideLemmas.{row_low, column_low, row_numbers, column_numbers, more_rows, more_columns}
use Rattle.mp_skips.proofs.FillLemmas.{total_bound, one_number}
use Rattle.mp_skips.proofs.FloorLemmas.{floors_apart, floor_of_one}
use Rattle.mp_skips.proofs.BlockLemmas.{scaled}

-- the sum of what f gives for n successive places of both
abbrev along : (ℕ → ℕ → ℕ) → ℕ → ℕ → ℕ → ℕ
along f n i j = total (λ t. f (i + t) (j + t)) n

pub no_squares : (f : ℕ → ℕ → ℕ) (i j : ℕ) → 0 ≡ total (λ t. f (i + t) (j + t)) 0
no_squares f i j = sym (total_zero (λ t. f (i + t) (j + t)))

pub squares_more : (f : ℕ → ℕ → ℕ) (n i j sum square : ℕ) → sum ≡ total (λ t. f (i + t) (j + t)) n
    → square ≡ f (i + n) (j + n) → sum + square ≡ total (λ t. f (i + t) (j + t)) (n + 1)
squares_more f n i j sum square is e = omega (arith, is, e, total_more (λ t. f (i + t) (j + t)) n)

squares_moved : (f : ℕ → ℕ → ℕ) (a n i j : ℕ)
    → total (λ t. f (i + (a + t)) (j + (a + t))) n ≡ along f n (i + a) (j + a)
squares_moved f a n i j =
    total_same (λ t. f (i + (a + t)) (j + (a + t))) (λ t. f (i + a + t) (j + a + t)) n
    (λ t _. (let e : i + (a + t) ≡ i + a + t = omega arith in
    let h : j + (a + t) ≡ j + a + t = omega arith in rw (e, h) refl))

pub squares_joined : (f : ℕ → ℕ → ℕ) (a n i j : ℕ)
    → along f (a + n) i j ≡ along f a i j + along f n (i + a) (j + a)
squares_joined f a n i j = omega (arith, total_parts (λ t. f (i + t) (j + t)) a n, squares_moved f a n i j)

one_square : (f : ℕ → ℕ → ℕ) (i j : ℕ) → along f 1 i j ≡ f i j
one_square f i j =
    one_number (λ t. f (i + t) (j + t))
    ∙ (let e : i + 0 ≡ i = omega arith in let h : j + 0 ≡ j = omega arith in rw (e, h) refl)

-- one square more, and one less
pub squares_on : (f : ℕ → ℕ → ℕ) (m i j : ℕ) → total (λ t. f (i + 1 + t) (j + 1 + t)) m + f i j
    ≡ total (λ t. f (i + t) (j + t)) m + f (i + m) (j + m)
squares_on f m i j =
    let turn : along f (1 + m) i j ≡ along f (m + 1) i j = ap (λ n. along f n i j) (omega arith) in
    omega (
      arith,
      squares_joined f 1 m i j,
      squares_joined f m 1 i j,
      turn,
      one_square f i j,
      one_square f (i + m) (j + m),
    )

pub first_square : (f : ℕ → ℕ → ℕ) (m i j : ℕ) → 1 ≤ m → f i j ≤ total (λ t. f (i + t) (j + t)) m
first_square f m i j some = omega (arith, one_square f i j, total_first (λ t. f (i + t) (j + t)) 1 m some)

gap_small : (a b slack : ℕ) → a < MOST_GRAINS → b < MOST_GRAINS → gap a b - slack ≤ 2 ^ 24
gap_small a b slack lt lt' = omega (arith, lt, lt')

pub square_small : (coarse : Coarse) (i j : ℕ) → square_at coarse i j ≤ 2 ^ 48
square_small coarse i j =
    let h = gap_small (number_in coarse.rows.levels.now i) (number_in coarse.columns.levels.now j)
    coarse.rows.units.step.slack (coarse.rows.lists.small_levels i) (coarse.columns.lists.small_levels j) in
    omega (arith, mul-le _ _ (2 ^ 24) (2 ^ 24) h h)

-- the levels of narrow series
narrow_level : (p step width : ℕ) → p * step ≤ width → width < 8192 * step → p < 8192
narrow_level p step width le lt = elim (cases_lt p 8192) [
  | inl l ↦ l
  | inr ge ↦ absurd (omega (arith, mul-le 8192 step p step ge (omega arith), le, lt))
]

narrow_row : (coarse : Coarse) (p : ℕ) → coarse.rows.units.width < 8192 * coarse.rows.units.step.size
    → number_in coarse.rows.levels.now p < 8192
narrow_row coarse p lt =
    narrow_level (number_in coarse.rows.levels.now p) coarse.rows.units.step.size coarse.rows.units.width
    (coarse.rows.lists.levels_within p) lt

narrow_column : (coarse : Coarse) (p : ℕ) → coarse.rows.units.width < 8192 * coarse.rows.units.step.size
    → number_in coarse.columns.levels.now p < 8192
narrow_column coarse p lt =
    narrow_level (number_in coarse.columns.levels.now p) coarse.columns.units.step.size coarse.columns.units.width
    (coarse.columns.lists.levels_within p)
    (subst (λ (u : Units). u.width < 8192 * u.step.size) (sym coarse.same_units) lt)

pub narrow_gap : (coarse : Coarse) (i j : ℕ) → coarse.rows.units.width < 8192 * coarse.rows.units.step.size
    → steps_apart coarse i j ≤ 8192
narrow_gap coarse i j lt = omega (arith, narrow_row coarse i lt, narrow_column coarse j lt)

pub narrow_small : (coarse : Coarse) (i j : ℕ) → coarse.rows.units.width < 8192 * coarse.rows.units.step.size
    → square_at coarse i j ≤ 2 ^ 26
narrow_small coarse i j lt =
    omega (
      arith,
      mul-le (steps_apart coarse i j) (steps_apart coarse i j) 8192 8192 (narrow_gap coarse i j lt)
          (narrow_gap coarse i j lt),
    )

-- ---- differences that wrap

wraps_back : (n g k : ℕ) → k + (g + g) ≡ n → g * g < n → ((g + k) * (g + k)) % n ≡ g * g
wraps_back n g k all small =
    let parts : (g + k) * (g + k) ≡ k * (k + (g + g)) + g * g =
    omega (
      arith,
      add-mul g k (g + k),
      mul-add g g k,
      mul-add k g k,
      mul-add k k (g + g),
      mul-add k g g,
      mul_comm g k,
    ) in
    ap (λ x. x % n) (parts ∙ ap (λ x. k * x + g * g) all) ∙ mod-mul-add k n (g * g) small

-- modulo n their squares are those of how far both numbers are apart, where these are small
wrapped_square : (n most a b d : ℕ) → a ≤ most → b ≤ most → most + most < n → most * most < n
    → d ≡ (a + (n - b)) % n → (d * d) % n ≡ gap a b * gap a b
wrapped_square n most a b d le le' twice square is = elim (cases_lt a b) [
  | inl less ↦
      let g = b - a in
      let k = n - (g + g) in
      let h : a + (n - b) ≡ g + k = omega (arith, less, le', twice) in
      let value : d ≡ g + k = is ∙ mod-eq_of_lt (omega (arith, less, le', twice)) ∙ h in
      ap (λ x. (x * x) % n) value
      ∙ wraps_back n g k (omega (arith, le', twice))
      (omega (arith, mul-le g g most most (omega (arith, le')) (omega (arith, le')), square))
      ∙ ap (λ x. x * x) (omega (arith, less))
  | inr no_less ↦
      let g = a - b in
      let h : a + (n - b) ≡ 1 * n + g = omega (arith, no_less, le', twice) in
      let value : d ≡ g = is ∙ ap (λ x. x % n) h ∙ mod-mul-add 1 n g (omega (arith, le, twice)) in
      ap (λ x. (x * x) % n) value
      ∙ mod-eq_of_lt (omega (arith, mul-le g g most most (omega (arith, le)) (omega (arith, le)), square))
      ∙ ap (λ x. x * x) (omega (arith, no_less))
]

-- of numbers that aren't rounded these are the squares
unrounded : (coarse : Coarse) (i j : ℕ) → coarse.rows.units.step.slack ≡ 0
    → gap (number_in coarse.rows.levels.now i) (number_in coarse.columns.levels.now j)
    * gap (number_in coarse.rows.levels.now i) (number_in coarse.columns.levels.now j) ≡ square_at coarse i j
unrounded coarse i j exact =
    let apart : gap (number_in coarse.rows.levels.now i) (number_in coarse.columns.levels.now j)
    ≡ steps_apart coarse i j = omega (arith, exact) in
    ap (λ n. n * n) apart

pub wrapped_is : (coarse : Coarse) (i j d : ℕ) → coarse.rows.units.step.slack ≡ 0
    → d ≡ (number_in coarse.rows.levels.now i + (18446744073709551616 - number_in coarse.columns.levels.now j))
    % 18446744073709551616 → (d * d) % 18446744073709551616 ≡ square_at coarse i j
wrapped_is coarse i j d exact is =
    wrapped_square 18446744073709551616 (2 ^ 24) (number_in coarse.rows.levels.now i)
    (number_in coarse.columns.levels.now j) d (omega (arith, coarse.rows.lists.small_levels i))
    (omega (arith, coarse.columns.lists.small_levels j)) (omega arith) (omega arith) is ∙ unrounded coarse i j exact

pub narrow_wrapped_is : (coarse : Coarse) (i j d : ℕ)
    → coarse.rows.units.width < 8192 * coarse.rows.units.step.size → coarse.rows.units.step.slack ≡ 0
    → d ≡ (number_in coarse.rows.levels.now i + (4294967296 - number_in coarse.columns.levels.now j)) % 4294967296
    → (d * d) % 4294967296 ≡ square_at coarse i j
narrow_wrapped_is coarse i j d narrow exact is =
    wrapped_square 4294967296 8192 (number_in coarse.rows.levels.now i) (number_in coarse.columns.levels.now j) d
    (omega (arith, narrow_row coarse i narrow)) (omega (arith, narrow_column coarse j narrow)) (omega arith)
    (omega arith) is ∙ unrounded coarse i j exact

pub squares_small : (coarse : Coarse) (n i j : ℕ) → squares_in coarse n i j ≤ n * 2 ^ 48
squares_small coarse n i j =
    total_bound (λ t. square_at coarse (i + t) (j + t)) (2 ^ 48) n (λ t. square_small coarse (i + t) (j + t))

-- where samples aren't rounded, none lies further above the low number than all do at most
level_within : (p step width : ℕ) → p * step ≤ width → step ≡ 1 → p ≤ width
level_within p step width le exact =
    let one : p * 1 ≤ width = subst (λ s. p * s ≤ width) exact le in
    omega (arith, one)

gap_within : (coarse : Coarse) (i j : ℕ) → coarse.rows.units.step.size ≡ 1
    → steps_apart coarse i j ≤ coarse.rows.units.width
gap_within coarse i j exact =
    let units = coarse.columns.units in
    let same : units.width ≡ coarse.rows.units.width = ap (λ (u : Units). u.width) coarse.same_units in
    let step : units.step.size ≡ 1 = ap (λ (u : Units). u.step.size) coarse.same_units ∙ exact in
    omega (
      arith,
      same,
      level_within (number_in coarse.rows.levels.now i) coarse.rows.units.step.size coarse.rows.units.width
          (coarse.rows.lists.levels_within i) exact,
      level_within (number_in coarse.columns.levels.now j) units.step.size units.width
          (coarse.columns.lists.levels_within j) step,
    )

square_within : (coarse : Coarse) (i j : ℕ) → coarse.rows.units.step.size ≡ 1
    → square_at coarse i j ≤ coarse.rows.units.width * coarse.rows.units.width
square_within coarse i j exact =
    let h = gap_within coarse i j exact in
    mul-le (steps_apart coarse i j) (steps_apart coarse i j) coarse.rows.units.width coarse.rows.units.width h h

pub squares_within : (coarse : Coarse) (n i j : ℕ) → coarse.rows.units.step.size ≡ 1
    → squares_in coarse n i j ≤ n * (coarse.rows.units.width * coarse.rows.units.width)
squares_within coarse n i j exact =
    total_bound (λ t. square_at coarse (i + t) (j + t)) (coarse.rows.units.width * coarse.rows.units.width) n
    (λ t. square_within coarse (i + t) (j + t) exact)

pub none_yet : (coarse : Coarse) (behind i j : ℕ) → 0 ≡ squares_in coarse (behind - behind) i j
none_yet coarse behind i j =
    let e : 0 ≡ behind - behind = omega arith in
    no_squares (square_at coarse) i j
    ∙ ap (λ n. squares_in coarse n i j) e

-- the core, part by part
pub part_more : (coarse : Coarse) (i j behind place count sum part : ℕ) → behind ≤ place
    → sum ≡ squares_in coarse (place - behind) (i + behind) (j + behind)
    → part ≡ squares_in coarse count (i + place) (j + place)
    → sum + part ≡ squares_in coarse (place + count - behind) (i + behind) (j + behind)
part_more coarse i j behind place count sum part le is e =
    let f = square_at coarse in
    let p : i + behind + (place - behind) ≡ i + place = omega (arith, le) in
    let q : j + behind + (place - behind) ≡ j + place = omega (arith, le) in
    let n : place - behind + count ≡ place + count - behind = omega (arith, le) in
    let there : along f count (i + behind + (place - behind)) (j + behind + (place - behind))
    ≡ along f count (i + place) (j + place) =
    ap (λ k. along f count k (j + behind + (place - behind))) p ∙ ap (λ k. along f count (i + place) k) q in
    let all : along f (place - behind + count) (i + behind) (j + behind)
    ≡ along f (place + count - behind) (i + behind) (j + behind) =
    ap (λ k. along f k (i + behind) (j + behind)) n in
    omega (arith, is, e, there, all, squares_joined f (place - behind) count (i + behind) (j + behind))

-- with the samples behind the last step it is the whole sum
pub whole_more : (coarse : Coarse) (i j behind place sum part : ℕ) → behind ≤ place → place ≤ coarse.plan.grid.m
    → sum ≡ squares_in coarse (place - behind) (i + behind) (j + behind)
    → part ≡ squares_in coarse (coarse.plan.grid.m - place) (i + place) (j + place)
    → sum + part ≡ squares_in coarse (coarse.plan.grid.m - behind) (i + behind) (j + behind)
whole_more coarse i j behind place sum part le within is e =
    part_more coarse i j behind place (coarse.plan.grid.m - place) sum part le is e
    ∙ ap (λ n. squares_in coarse n (i + behind) (j + behind)) (omega (arith, within))

-- some of the squares tell that all are so much
pub part_tells : (coarse : Coarse) (i j n m sum most : ℕ) → n ≤ m → sum ≡ squares_in coarse n i j → most ≤ sum
    → most ≤ squares_in coarse m i j
part_tells coarse i j n m sum most le is enough =
    omega (
      arith,
      is,
      enough,
      total_first (λ t. square_at coarse (i + t) (j + t)) n m le,
    )

pub whole : (coarse : Coarse) (i j behind m first core : ℕ) → behind ≤ m
    → first ≡ squares_in coarse behind i j
    → core ≡ squares_in coarse (m - behind) (i + behind) (j + behind)
    → first + core ≡ squares_in coarse m i j
whole coarse i j behind m first core le f c =
    let n : behind + (m - behind) ≡ m = omega (arith, le) in
    omega (
      arith,
      f,
      c,
      squares_joined (square_at coarse) behind (m - behind) i j,
      ap (λ k. along (square_at coarse) k i j) n,
    )

-- ---- plain numbers tell of the samples

exact_square : (step slack z w p q : ℕ) → step ≡ 1 → slack ≡ 0 → IsFloor step z p → IsFloor step w q
    → (gap p q - slack) * (gap p q - slack) ≡ square_gap z w
exact_square step slack z w p q one none f h =
    let e : gap p q - slack ≡ gap z w = omega (arith, floor_of_one step z p one f, floor_of_one step w q one h, none) in
    rw e refl

-- where they aren't rounded
same_squares : (coarse : Coarse) (n i j : ℕ) → coarse.rows.units.step.size ≡ 1
    → squares_in coarse n i j
    ≡ squares_from (level coarse.rows.units.low (series_of coarse.plan.grid.rows.now))
    (level coarse.rows.units.low (series_of coarse.plan.grid.columns.now)) n i j
same_squares coarse n i j one =
    let x = level coarse.rows.units.low (series_of coarse.plan.grid.rows.now) in
    let y = level coarse.rows.units.low (series_of coarse.plan.grid.columns.now) in
    let step = coarse.rows.units.step in
    total_same (λ t. square_at coarse (i + t) (j + t)) (λ t. square_gap (x (i + t)) (y (j + t))) n
    (λ t _. exact_square step.size step.slack (x (i + t)) (y (j + t)) (number_in coarse.rows.levels.now (i + t))
    (number_in coarse.columns.levels.now (j + t)) one (step.exact one) ((row_numbers coarse).each (i + t))
    ((column_numbers coarse).each (j + t)))

-- else they lie no further apart
squares_below : (coarse : Coarse) (n i j : ℕ)
    → squares_in coarse n i j * (coarse.rows.units.step.size * coarse.rows.units.step.size)
    ≤ squares_from (level coarse.rows.units.low (series_of coarse.plan.grid.rows.now))
    (level coarse.rows.units.low (series_of coarse.plan.grid.columns.now)) n i j
squares_below coarse n i j =
    let x = level coarse.rows.units.low (series_of coarse.plan.grid.rows.now) in
    let y = level coarse.rows.units.low (series_of coarse.plan.grid.columns.now) in
    let step = coarse.rows.units.step in
    scaled (λ t. steps_apart coarse (i + t) (j + t)) (λ t. gap (x (i + t)) (y (j + t))) step.size n
    (λ t _. floors_apart step.size step.slack (x (i + t)) (y (j + t)) (number_in coarse.rows.levels.now (i + t))
    (number_in coarse.columns.levels.now (j + t)) step.enough ((row_numbers coarse).each (i + t))
    ((column_numbers coarse).each (j + t)))

-- a row and a column have this distance, if they have one
pub sum_tells : (coarse : Coarse) (i j d sum : ℕ) → coarse.rows.units.step.size ≡ 1
    → sum ≡ squares_in coarse coarse.plan.grid.m i j → distance_in coarse.plan.grid i j ≡ Some d → sum ≡ d
sum_tells coarse i j d sum one is there =
    is ∙ same_squares coarse coarse.plan.grid.m i j one
    ∙ sym (distance_raised coarse.rows.units.low coarse.plan.grid.m (series_of coarse.plan.grid.rows.now) i
    (series_of coarse.plan.grid.columns.now) j d (row_low coarse) (column_low coarse) there)

-- it is so great at least
pub sum_is_least : (coarse : Coarse) (i j d sum : ℕ) → sum ≡ squares_in coarse coarse.plan.grid.m i j
    → distance_in coarse.plan.grid i j ≡ Some d
    → sum * (coarse.rows.units.step.size * coarse.rows.units.step.size) ≤ d
sum_is_least coarse i j d sum is there =
    omega (
      arith,
      ap (λ n. n * (coarse.rows.units.step.size * coarse.rows.units.step.size)) is,
      squares_below coarse coarse.plan.grid.m i j,
      distance_raised coarse.rows.units.low coarse.plan.grid.m (series_of coarse.plan.grid.rows.now) i
          (series_of coarse.plan.grid.columns.now) j d (row_low coarse) (column_low coarse) there,
    )

-- what a block's rows share on one diagonal
pub core_tells : (coarse : Coarse) (i j r d : ℕ) → r ≤ height coarse → height coarse ≤ coarse.plan.grid.m
    → distance_in coarse.plan.grid (i + r) (j + r) ≡ Some d
    → squares_in coarse (coarse.plan.grid.m - height coarse) (i + height coarse) (j + height coarse)
    * (coarse.rows.units.step.size * coarse.rows.units.step.size) ≤ d
core_tells coarse i j r d few wide there =
    omega (
      arith,
      squares_below coarse (coarse.plan.grid.m - height coarse) (i + height coarse) (j + height coarse),
      raised_core_below coarse.rows.units.low coarse.plan.grid.m (height coarse) r
          (series_of coarse.plan.grid.rows.now) i (series_of coarse.plan.grid.columns.now) j d (row_low coarse)
          (column_low coarse) few wide there,
    )

core_small : (coarse : Coarse) (i j : ℕ)
    → squares_in coarse (coarse.plan.grid.m - height coarse) (i + height coarse) (j + height coarse) < 2 ^ 63
core_small coarse i j =
    omega (
      arith,
      squares_small coarse (coarse.plan.grid.m - height coarse) (i + height coarse) (j + height coarse),
      coarse.plan.grid.short,
    )

pub sum_has_bits : (coarse : Coarse) (i j sum : ℕ) → sum ≡ squares_in coarse coarse.plan.grid.m i j → sum < 2 ^ 63
sum_has_bits coarse i j sum is =
    omega (arith, is, squares_small coarse coarse.plan.grid.m i j, coarse.plan.grid.short)

pub height_within : (coarse : Coarse) → height coarse ≤ coarse.plan.grid.m
height_within coarse = omega (arith, add-mul coarse.terms 1 (8 * coarse.rows.units.eights), coarse.wide)

-- so many squares that are shared tell that all rows are apart
pub core_apart : (coarse : Coarse) (i j need most : ℕ) → IsMost coarse need most
    → most ≤ squares_in coarse (coarse.plan.grid.m - height coarse) (i + height coarse) (j + height coarse)
    → AreApart coarse i j 1 need
core_apart coarse i j need most is le = record {
  each = λ r u d rk lt there.
      let core = squares_in coarse (coarse.plan.grid.m - height coarse) (i + height coarse) (j + height coarse) in
      let place : j + u + r ≡ j + r = omega (arith, lt) in
      let here : distance_in coarse.plan.grid (i + r) (j + r) ≡ Some d =
      subst (λ n. distance_in coarse.plan.grid (i + r) n ≡ Some d) place there in
      is.far core d (core_small coarse i j) le
      (core_tells coarse i j r d (omega (arith, rk)) (height_within coarse) here);
}

pub core_some : (coarse : Coarse) (i j need most : ℕ) → IsMost coarse need most
    → most ≤ squares_in coarse (coarse.plan.grid.m - height coarse) (i + height coarse) (j + height coarse)
    → need < NO_NEED
core_some coarse i j need most is le =
    is.some (squares_in coarse (coarse.plan.grid.m - height coarse) (i + height coarse) (j + height coarse))
    (core_small coarse i j) le

pub squares_there : (coarse : Coarse) (m i j p q : ℕ) → i ≡ p → j ≡ q
    → squares_in coarse m i j ≡ squares_in coarse m p q
squares_there coarse m i j p q e f = ap (λ n. squares_in coarse m n j) e ∙ ap (λ n. squares_in coarse m p n) f

below_it : (q p : ℕ) → q < p + 1 → (q ≡ p → ⊥) → q < p
below_it q p less n = elim (cases_lt q p) [ inl lt ↦ lt | inr le ↦ absurd (n (omega arith)) ]

-- one sum more of those along a diagonal
pub sums_next : (coarse : Coarse) (m i j : ℕ) (sums : List ℕ) (r sum : ℕ)
    → ((k : ℕ) → k < r → number_in sums k ≡ squares_in coarse m (i + k) (j + k))
    → sum ≡ squares_in coarse m (i + r) (j + r) → r < length sums
    → (k : ℕ) → k < r + 1 → number_in (set sums r sum) k ≡ squares_in coarse m (i + k) (j + k)
sums_next coarse m i j sums r sum h is lt k less = elim (cases_eq k r) [
  | inl e ↦ subst (λ z. number_in (set sums r sum) z ≡ squares_in coarse m (i + z) (j + z)) (sym e)
      (get_or-set_same sums r sum 0 lt ∙ is)
  | inr n ↦ get_or-set_other sums r k sum 0 n ∙ h k (below_it k r less n)
]

-- behind a window stands at least one number more
pub row_level : (coarse : Coarse) (row : ℕ) → row < row_windows coarse.plan.grid
    → row + coarse.plan.grid.m < length coarse.rows.levels.now
row_level coarse row lt =
    omega (
      arith,
      lt,
      coarse.plan.some_samples,
      more_rows coarse,
      length-map coarse.plan.grid.rows.now reading_of,
    )

pub column_level : (coarse : Coarse) (column : ℕ) → column < column_windows coarse.plan.grid
    → column + coarse.plan.grid.m < length coarse.columns.levels.now
column_level coarse column lt =
    omega (
      arith,
      lt,
      coarse.plan.some_samples,
      more_columns coarse,
      length-map coarse.plan.grid.columns.now reading_of,
    )
