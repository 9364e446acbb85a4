-- A series: a list of samples, each missing or a whole number of 48 bits with sign.
use Rattle.std.specs.Prelude.{ℕ, ℤ, List, map, slice_get, Option, Some, None}
use Rattle.mp_nums.specs.declared.samples.Sample.{Sample}
use Rattle.mp_nums.specs.declared.samples.Sample.TheVariants.{Missing, Value}

abbrev pub Series : Type 0
Series = List (Option ℤ)

-- what a sample of the program stands for. All else is said over series
abbrev pub reading_of : Sample → Option ℤ
reading_of Missing = None
reading_of (Value n) = Some n

abbrev pub series_of : List Sample → Series
series_of samples = map reading_of samples

abbrev pub present : Option (Option ℤ) → Option ℤ
present None = None
present (Some sample) = sample

-- the number at a place, where the series goes that far and the sample isn't missing
abbrev pub number_at : Series → ℕ → Option ℤ
number_at a i = present (slice_get a i)
