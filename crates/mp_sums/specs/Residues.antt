-- Sums modulo 2 ^ 32, in signed numbers of 32 bits.
use Rattle.std.specs.Prelude.{◌≡◌, ℕ, ◌+◌, ◌-◌, ◌<◌, ◌==◌, min, if◌then◌else◌, List, length, slice_index_or}
use Rattle.std.specs.Prelude.{ℤ, pos, negsuc, ◌+ℤ◌, ◌-ℤ◌, ◌*ℤ◌, ◌<ℤ◌, Some}
use Rattle.std.specs.Int.{w32, int_wrap}
use Rattle.mp_defs.specs.Series.{Series}
use Rattle.mp_defs.specs.Distance.{distance}
use Rattle.mp_sums.specs.declared.limits.Limit.{Limit}
use Rattle.mp_sums.specs.declared.limits.Limit.TheVariants.{Every, Within, Below}
use Rattle.mp_sums.specs.Limits.{IsBeyond}
use Rattle.mp_sums.specs.Sums.{numbers_of, square_sum}
use Rattle.mp_sums.specs.Rounding.{rounded, threshold}

-- the residue of a sum: the sum less 2 ^ 31 - 1, as far as 32 bits hold it. So the residues of sums below 2 ^ 32 - 1
-- have the order of the sums, and one number lies below them all
abbrev pub residue : ℕ → ℤ
residue sum = int_wrap w32 (pos sum -ℤ pos 2147483647)

-- of two windows of m samples, the residue of the sum of the squared differences of their rounded samples
abbrev pub rounded_residue : ℕ → ℕ → Series → ℕ → Series → ℕ → ℤ
rounded_residue m shift a i b j =
    residue (square_sum m (rounded shift (numbers_of a)) i (rounded shift (numbers_of b)) j)

-- ---- limits

-- the greatest residue of the sums up to one. From 2 ^ 32 - 2 on it is the greatest number, which no residue exceeds
abbrev pub residue_up_to : ℕ → ℤ
residue_up_to sum = pos (min sum 4294967294) -ℤ pos 2147483647

abbrev pub limit_within : ℕ → ℕ → ℕ → ℤ
limit_within m shift dist = residue_up_to (threshold m shift dist)

-- for no distance it is the least number, which only residues of wrapped sums don't exceed
abbrev pub limit_below : ℕ → ℕ → ℕ → ℤ
limit_below m shift dist = if dist == 0 then negsuc 2147483647 else limit_within m shift (dist - 1)

-- the greatest residue that windows of m samples at a distance within the limit can have
abbrev pub residue_limit : ℕ → ℕ → Limit → ℤ
residue_limit m shift Every = pos 2147483647
residue_limit m shift (Within most) = limit_within m shift most.0
residue_limit m shift (Below end) = limit_below m shift end.0

-- two windows of m samples whose residue is above it lie beyond the limit
pub record IsLimitOf (m shift : ℕ) (limit : Limit) (bound : ℤ) : Type 0 where
  pub beyond : (a : Series) (i : ℕ) (b : Series) (j d : ℕ) → distance m a i b j ≡ Some d
      → bound <ℤ rounded_residue m shift a i b j → IsBeyond limit d

-- ---- steps

abbrev pub item : List ℤ → ℕ → ℤ
item xs k = slice_index_or xs k (pos 0)

-- the numbers from start on, as far as 32 bits hold them
pub record AreNumbers (x : ℕ → ℤ) (start : ℕ) (numbers : List ℤ) : Type 0 where
  pub each : (k : ℕ) → k < length numbers → item numbers k ≡ int_wrap w32 (x (start + k))

-- what comes in and what goes where window i of m numbers moves on by one: their difference and their sum
pub record IsChange (m : ℕ) (x : ℕ → ℤ) (i : ℕ) (difference sum : ℤ) : Type 0 where
  pub difference_is : difference ≡ int_wrap w32 (x (i + m) -ℤ x i)
  pub sum_is : sum ≡ int_wrap w32 (x (i + m) +ℤ x i)

-- the same of the windows from start on
pub record AreChanges (m : ℕ) (x : ℕ → ℤ) (start : ℕ) (differences sums : List ℤ) : Type 0 where
  pub same : length sums ≡ length differences
  pub each : (k : ℕ) → k < length differences → IsChange m x (start + k) (item differences k) (item sums k)

-- a residue with the change of its row and of its column, each a difference and a sum
abbrev pub moved : ℤ → ℤ → ℤ → ℤ → ℤ → ℤ
moved sum row_difference row_sum column_difference column_sum =
    int_wrap w32 (sum +ℤ (row_difference -ℤ column_difference) *ℤ (row_sum -ℤ column_sum))
