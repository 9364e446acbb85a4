-- A series in rounded samples, and the cores that successive windows share.
use Rattle.std.specs.Prelude.{ℕ, ◌+◌, ◌-◌, ◌≤◌, List, Bool, length, ℤ}
use Rattle.mp_nums.specs.declared.samples.Sample.{Sample}
use Rattle.mp_defs.specs.Series.{Series, series_of}
use Rattle.mp_sums.specs.Sums.{numbers_of, square_sum}
use Rattle.mp_sums.specs.Rounding.{rounded}
use Rattle.mp_sums.specs.Residues.{AreNumbers, AreChanges}
use Rattle.mp_scans.specs.declared.plans.Plan.{Plan}
use Rattle.mp_anytime.specs.Scanning.{AreFree}

-- the numbers of a series in units of 2 ^ shift, rounded down
abbrev pub rounded_in : ℕ → Series → ℕ → ℤ
rounded_in shift a = rounded shift (numbers_of a)

-- the sum of the squared differences of the rounded samples of windows i and j
abbrev pub rounded_sum : ℕ → ℕ → Series → ℕ → ℕ → ℕ
rounded_sum m shift a i j = square_sum m (rounded_in shift a) i (rounded_in shift a) j

-- the same without the first 31 samples: of 32 successive pairs on a diagonal, from windows i and j on, each has these
abbrev pub core_sum : ℕ → ℕ → Series → ℕ → ℕ → ℕ
core_sum m shift a i j = square_sum (m - 31) (rounded_in shift a) (i + 31) (rounded_in shift a) (j + 31)

-- the series of a plan for one series
abbrev pub series_in : Plan → Series
series_in plan = series_of plan.grid.rows.now

abbrev pub whole_in : Plan → ℕ → ℕ → ℕ
whole_in plan i j = rounded_sum plan.grid.m plan.rounding.shift (series_in plan) i j

abbrev pub core_in : Plan → ℕ → ℕ → ℕ
core_in plan i j = core_sum plan.grid.m plan.rounding.shift (series_in plan) i j

-- the rounded samples and zeros behind them, which windows are free, and what comes in and what goes where windows and
-- where their cores move on by one
pub record AreRounded (m shift : ℕ) (samples : List Sample) (numbers : List ℤ) (free : List Bool)
    (differences sums core_differences core_sums : List ℤ) : Type 0 where
  pub are_numbers : AreNumbers (rounded_in shift (series_of samples)) 0 numbers
  pub all_numbers : length samples + 32 ≤ length numbers
  pub marks : AreFree m (series_of samples) free
  pub windows : AreChanges m (rounded_in shift (series_of samples)) 0 differences sums
  pub all_windows : length free ≤ length differences
  pub cores : AreChanges (m - 31) (rounded_in shift (series_of samples)) 0 core_differences core_sums
  pub all_cores : length free + 31 ≤ length core_differences
