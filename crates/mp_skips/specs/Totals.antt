-- Sums over places, and samples as numbers above a low one.
use Rattle.std.specs.Prelude.{ℕ, zero, suc, ◌+◌, ◌-◌, ◌*◌, ℤ, ◌-ℤ◌, unsigned_abs, Option, Some, None}
use Rattle.mp_defs.specs.Series.{Series, number_at}

-- the sum over the first n places
unfoldable pub total : (ℕ → ℕ) → ℕ → ℕ
total f zero = 0
total f (suc n) = total f n + f n

-- how far two numbers are apart
abbrev pub gap : ℕ → ℕ → ℕ
gap p q = (p - q) + (q - p)

-- the square of that
abbrev pub square_gap : ℕ → ℕ → ℕ
square_gap p q = gap p q * gap p q

-- the sum of the s numbers from p on
abbrev pub sum_from : (ℕ → ℕ) → ℕ → ℕ → ℕ
sum_from x s p = total (λ u. x (p + u)) s

-- the sum of the squared differences of the m numbers from i on in x and from j on in y
abbrev pub squares_from : (ℕ → ℕ) → (ℕ → ℕ) → ℕ → ℕ → ℕ → ℕ
squares_from x y m i j = total (λ t. square_gap (x (i + t)) (y (j + t))) m

-- the same of sums of s numbers each, in n groups one behind the other
abbrev pub group_squares : (ℕ → ℕ) → (ℕ → ℕ) → ℕ → ℕ → ℕ → ℕ → ℕ
group_squares x y s n i j = total (λ t. square_gap (sum_from x s (i + t * s)) (sum_from y s (j + t * s))) n

-- how far a sample lies above a low number. A missing one counts as 0
abbrev pub raised : ℤ → Option ℤ → ℕ
raised low None = 0
raised low (Some x) = unsigned_abs (x -ℤ low)

-- the samples of a series as numbers above a low one, 0 past the last
abbrev pub level : ℤ → Series → ℕ → ℕ
level low a t = raised low (number_at a t)
