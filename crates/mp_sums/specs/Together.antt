-- Several series, of which windows i and j are compared together.
use Rattle.std.specs.Prelude.{ℕ, ◌+◌, List, [], ◌∷◌, ℤ, pos, negsuc, ◌+ℤ◌}
use Rattle.std.specs.Int.{int_shr}
use Rattle.mp_sums.specs.Sums.{square_sum}

-- the sum of the squared differences of both windows in each of the series, of whose numbers others are made first
unfoldable pub sums_by : (ℤ → ℤ) → ℕ → List (ℕ → ℤ) → ℕ → ℕ → ℕ
sums_by f m [] i j = 0
sums_by f m (x ∷ xs) i j = square_sum m (λ t. f (x t)) i (λ t. f (x t)) j + sums_by f m xs i j

abbrev pub sums_together : ℕ → List (ℕ → ℤ) → ℕ → ℕ → ℕ
sums_together m xs i j = sums_by (λ z. z) m xs i j

-- the same of rounded numbers
abbrev pub rounded_together : ℕ → ℕ → List (ℕ → ℤ) → ℕ → ℕ → ℕ
rounded_together m shift xs i j = sums_by (λ z. int_shr z shift) m xs i j

-- a number, 0 below it
abbrev pub natural : ℤ → ℕ
natural (pos n) = n
natural (negsuc n) = 0

-- the sum that a residue is taken for: the sum itself where this has 32 bits, and a lesser one where it wrapped
abbrev pub counted : ℤ → ℕ
counted r = natural (r +ℤ pos 2147483647)
