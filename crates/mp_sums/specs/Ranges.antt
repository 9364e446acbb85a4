-- From which number up to which some numbers reach, and how large the sums of their squared differences can be.
use Rattle.std.specs.Prelude.{ℕ, ◌*◌, ◌^◌, ◌<◌, List, length, slice_index_or, ℤ, pos, ◌≤ℤ◌}
use Rattle.mp_nums.specs.declared.samples.Sample.{Sample}
use Rattle.mp_defs.specs.Series.{series_of}
use Rattle.mp_defs.specs.Distance.{squared_difference}
use Rattle.mp_sums.specs.declared.ranges.Range.{Range}
use Rattle.mp_sums.specs.Sums.{numbers_of}

-- a number lies between the ends of a range
abbrev pub IsInRange : Range → ℤ → Type 0
IsInRange range x = (range.least ≤ℤ x) × (x ≤ℤ range.greatest)

-- each of these numbers does
abbrev pub AreWithin : Range → List ℤ → Type 0
AreWithin range numbers = (k : ℕ) → k < length numbers → IsInRange range (slice_index_or numbers k (pos 0))

-- each of the numbers of these samples does, where a missing one counts as 0
abbrev pub AreSamplesWithin : Range → List Sample → Type 0
AreSamplesWithin range samples =
    (k : ℕ) → k < length samples → IsInRange range (numbers_of (series_of samples) k)

-- one range reaches as far as another on both sides
abbrev pub Reaches : Range → Range → Type 0
Reaches wide narrow = (wide.least ≤ℤ narrow.least) × (narrow.greatest ≤ℤ wide.greatest)

-- the sum of m squared differences in a range has no more than so many bits
abbrev pub SumsFit : ℕ → ℕ → Range → Type 0
SumsFit m bits range = m * squared_difference range.greatest range.least < 2 ^ bits
