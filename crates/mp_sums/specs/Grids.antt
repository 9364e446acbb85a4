-- Two series whose windows of one length are compared, and the sums of their pairs.
use Rattle.std.specs.Prelude.{◌≡◌, ℕ, ◌+◌, ◌^◌, ◌<◌, ◌≤◌, length, ℤ, Option, Some}
use Rattle.mp_defs.specs.Series.{series_of}
use Rattle.mp_defs.specs.Distance.{squared_difference, distance}
use Rattle.mp_sums.specs.declared.distances.Grid.{Grid}
use Rattle.mp_sums.specs.Sums.{numbers_of, square_sum, IsSum}

-- the numbers of the series that has the rows
abbrev pub row_numbers : Grid → ℕ → ℤ
row_numbers grid = numbers_of (series_of grid.rows.now)

-- the numbers of the series that has the columns
abbrev pub column_numbers : Grid → ℕ → ℤ
column_numbers grid = numbers_of (series_of grid.columns.now)

-- the squared difference of two samples
abbrev pub square_in : Grid → ℕ → ℕ → ℕ
square_in grid row column = squared_difference (row_numbers grid row) (column_numbers grid column)

-- the sum of the first n squares of a row and a column
abbrev pub first_sum_in : Grid → ℕ → ℕ → ℕ → ℕ
first_sum_in grid n row column = square_sum n (row_numbers grid) row (column_numbers grid) column

abbrev pub IsFirstSumIn : Grid → ℕ → ℕ → ℕ → ℕ → Type 0
IsFirstSumIn grid n row column sum = IsSum n (row_numbers grid) row (column_numbers grid) column sum

-- the sum of a row and a column
abbrev pub sum_in : Grid → ℕ → ℕ → ℕ
sum_in grid row column = first_sum_in grid grid.m row column

abbrev pub IsSumIn : Grid → ℕ → ℕ → ℕ → Type 0
IsSumIn grid row column sum = IsFirstSumIn grid grid.m row column sum

-- the distance of a row and a column, none where a sample of either is missing
abbrev pub distance_in : Grid → ℕ → ℕ → Option ℕ
distance_in grid row column =
    distance grid.m (series_of grid.rows.now) row (series_of grid.columns.now) column

-- the distances of windows of these series have no more than so many bits
pub record DistancesFit (bits : ℕ) (grid : Grid) : Type 0 where
  pub each : (row column d : ℕ) → row + grid.m ≤ length grid.rows.now → column + grid.m ≤ length grid.columns.now
      → distance_in grid row column ≡ Some d → d < 2 ^ bits
