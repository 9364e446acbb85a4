-- Numbers rounded down to multiples of a power of two, and how far sums of squared differences can grow by that.
use Rattle.std.specs.Prelude.{ℕ, ◌+◌, ◌-◌, ◌*◌, ◌/◌, ◌^◌, ◌==◌, if◌then◌else◌, ℤ}
use Rattle.std.specs.Int.{w64, int_shr, leading_zeros}

-- the numbers in units of 2 ^ shift, rounded down
abbrev pub rounded : ℕ → (ℕ → ℤ) → ℕ → ℤ
rounded shift x t = int_shr (x t) shift

-- The most that a sum of m squares of rounded differences can be where the sum of the squared differences themselves is
-- below a + 1 squares of the unit. Each rounded difference d is less than one unit away, and by any weight w its square
-- is at most 1 + 1 / w of what it was, and 1 + w more
abbrev pub widened : ℕ → ℕ → ℕ → ℕ
widened m w a = a + a / w + 1 + m + m * w

-- half of the bits by which a is longer than m: as a power of two, about the weight that widens least
abbrev pub weight : ℕ → ℕ → ℕ
weight m a = (leading_zeros w64 m - leading_zeros w64 a) / 2

abbrev pub widened_least : ℕ → ℕ → ℕ
widened_least m a = widened m (2 ^ weight m a) a

-- the most that a sum of m squares of rounded differences can be where that of the differences themselves is within a
-- limit
abbrev pub threshold : ℕ → ℕ → ℕ → ℕ
threshold m shift limit = if shift == 0 then limit else widened_least m (limit / 2 ^ (2 * shift))
