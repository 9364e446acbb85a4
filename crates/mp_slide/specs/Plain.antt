-- Patterns and series in plain numbers.
use Rattle.std.specs.Prelude.{◌≡◌, ℕ, zero, suc, ◌+◌, ◌<◌, ◌≤◌, ◌==◌, if◌then◌else◌}
use Rattle.std.specs.Prelude.{List, length, map, take, drop, slice_index, ℤ, Option, Some, None}
use Rattle.mp_nums.specs.declared.nearest.Sq.{Sq}
use Rattle.mp_nums.specs.declared.samples.Sample.{Sample}
use Rattle.mp_defs.specs.Series.{Series, reading_of, number_at}
use Rattle.mp_defs.specs.Limits.{max_window}
use Rattle.mp_results.specs.Slide.{square}
use Rattle.mp_sums.specs.Sums.{filled}
use Rattle.mp_sums.specs.Lists.{list_sum}
use Rattle.mp_sums.specs.Ranges.{AreWithin, SumsFit}
use Rattle.mp_sums.specs.declared.ranges.Range.{Range}
use Rattle.mp_slide.specs.declared.kernels.TheConstants.{PART}

-- the numbers of samples, 0 where one is missing
abbrev pub plain_numbers : List Sample → List ℤ
plain_numbers samples = map (λ sample. filled (reading_of sample)) samples

-- 1 where a number is missing
abbrev pub gap : Option ℤ → ℕ
gap None = 1
gap (Some x) = 0

-- how many samples before a place are missing
unfoldable pub gaps_before : Series → ℕ → ℕ
gaps_before a zero = 0
gaps_before a (suc i) = gaps_before a i + gap (number_at a i)

-- the count before each place, and before the end
pub record AreGaps (a : Series) (gaps : List ℕ) : Type 0 where
  pub places : length gaps ≡ length a + 1
  pub counts : (i : ℕ) → i < length gaps → slice_index gaps i ≡ gaps_before a i

-- no longer than the longest window
abbrev pub IsShort : List ℤ → Type 0
IsShort pattern = length pattern ≤ max_window

-- these numbers and those lie in a range so narrow that the sums of parts have 64 bits
pub record LieClose (xs ys : List ℤ) : Type 0 where
  pub range : Range
  pub of_pattern : AreWithin range xs
  pub of_window : AreWithin range ys
  pub narrow : SumsFit PART 64 range

-- the distance of the pattern to the window at a start, none where samples of it are missing
abbrev pub plain_distance : List ℤ → List ℤ → List ℕ → ℕ → Option Sq
plain_distance pattern numbers gaps start =
    if slice_index gaps start == slice_index gaps (start + length pattern)
    then Some (square (list_sum (length pattern) pattern 0 (take (length pattern) (drop start numbers)) 0))
    else None
