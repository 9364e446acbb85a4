-- What sums of successive samples tell of distances.
use Rattle.std.specs.Prelude.{◌≡◌, ℕ, ◌+◌, ◌-◌, ◌*◌, ◌<◌, ◌≤◌, Some}
use Rattle.mp_defs.specs.Series.{Series}
use Rattle.mp_defs.specs.Distance.{distance}
use Rattle.mp_sums.specs.Sums.{numbers_of, square_sum}
use Rattle.mp_skips.specs.Totals.{total, square_gap, sum_from, squares_from, group_squares}

-- k + 1 successive pairs of a diagonal share m - k samples, the core: each of these pairs is at least as far apart
abbrev pub CoreIsBelow : Type 0
CoreIsBelow = (m k r : ℕ) (a : Series) (i : ℕ) (b : Series) (j d : ℕ) → r ≤ k → k ≤ m
    → distance m a (i + r) b (j + r) ≡ Some d
    → square_sum (m - k) (numbers_of a) (i + k) (numbers_of b) (j + k) ≤ d

-- the square of a sum of s numbers is at most s times the sum of their squares
abbrev pub SquareOfSumIsBelow : Type 0
SquareOfSumIsBelow = (f : ℕ → ℕ) (s : ℕ) → total f s * total f s ≤ s * total (λ u. f u * f u) s

-- the squared differences of sums of s numbers each are together at most s times the sum of the squared differences
abbrev pub GroupsAreBelow : Type 0
GroupsAreBelow = (x y : ℕ → ℕ) (s n m i j : ℕ) → n * s ≤ m
    → group_squares x y s n i j ≤ s * squares_from x y m i j

-- p is how often a grain goes into z, rounded down
pub record IsFloor (grain z p : ℕ) : Type 0 where
  pub below : p * grain ≤ z
  pub above : z < p * grain + grain

-- the squared differences of sums of s numbers each that are rounded down to grains
abbrev pub floor_squares : (ℕ → ℕ) → (ℕ → ℕ) → ℕ → ℕ → ℕ → ℕ → ℕ
floor_squares p q s n i j = total (λ t. square_gap (p (i + t * s)) (q (j + t * s))) n

-- rounded sums tell, at any weight from 1 on, that a squared distance is above a limit
abbrev pub FloorsAreSafe : Type 0
FloorsAreSafe = (x y p q : ℕ → ℕ) (s n m i j grain weight limit : ℕ) → n * s ≤ m
    → ((t : ℕ) → t < n → IsFloor grain (sum_from x s (i + t * s)) (p (i + t * s)))
    → ((t : ℕ) → t < n → IsFloor grain (sum_from y s (j + t * s)) (q (j + t * s)))
    → (weight + 1) * (s * limit) + weight * ((weight + 1) * (n * (grain * grain)))
    < weight * (grain * grain * floor_squares p q s n i j)
    → limit < squares_from x y m i j
