-- Sums of squared differences, in which a missing sample counts as 0.
use Rattle.std.specs.Prelude.{◌≡◌, ℕ, zero, suc, ◌+◌, ◌-◌, ◌*◌, ◌^◌, ◌<◌, ◌≤◌, if◌then◌else◌, nat_le, ℤ, pos, Option}
use Rattle.std.specs.Prelude.{Some, None}
use Rattle.mp_defs.specs.Series.{Series, number_at}
use Rattle.mp_defs.specs.Distance.{squared_difference}

abbrev pub filled : Option ℤ → ℤ
filled None = pos 0
filled (Some x) = x

-- the numbers of a series, 0 where one is missing and past the last one
abbrev pub numbers_of : Series → ℕ → ℤ
numbers_of a t = filled (number_at a t)

-- the sum of the squared differences of the m numbers from i on in x and those from j on in y
unfoldable pub square_sum : ℕ → (ℕ → ℤ) → ℕ → (ℕ → ℤ) → ℕ → ℕ
square_sum zero x i y j = 0
square_sum (suc m) x i y j = square_sum m x i y j + squared_difference (x (i + m)) (y (j + m))

-- the most that the squared difference of two samples can be
abbrev pub greatest_square : ℕ
greatest_square = (2 ^ 48 - 1) * (2 ^ 48 - 1)

-- this is the sum, and no square in it is greater than that of two samples
pub record IsSum (m : ℕ) (x : ℕ → ℤ) (i : ℕ) (y : ℕ → ℤ) (j sum : ℕ) : Type 0 where
  pub sum_is : sum ≡ square_sum m x i y j
  pub small : (k : ℕ) → k < m → squared_difference (x (i + k)) (y (j + k)) ≤ greatest_square

-- a number, where it is at most a limit
abbrev pub at_most : ℕ → ℕ → Option ℕ
at_most limit n = if nat_le n limit then Some n else None
