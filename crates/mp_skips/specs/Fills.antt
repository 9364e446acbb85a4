-- Samples above a low number, and the lists that are filled in.
use Rattle.std.specs.Prelude.{ℕ, ◌*◌, ◌<◌, ◌≤◌, List, length, ℤ}
use Rattle.mp_nums.specs.declared.samples.Sample.{Sample}
use Rattle.mp_defs.specs.Series.{Series, series_of}
use Rattle.mp_skips.specs.Totals.{level}
use Rattle.mp_skips.specs.Sums.{number_in, IsLow, AreNumbers, AreFloors, AreGroups}
use Rattle.mp_skips.specs.declared.sums.TheConstants.{MOST_GRAINS}

-- no sample of a series lies below a low number, or more than a range above it
pub record AreLevels (low : ℤ) (range : ℕ) (a : Series) : Type 0 where
  pub low_is : IsLow low a
  pub each : (t : ℕ) → level low a t ≤ range

-- the lists of a series in plain numbers and in sums of s samples are filled
pub record AreFilled (low : ℤ) (range s step grain : ℕ) (samples : List Sample)
    (levels floors least greatest : List ℕ) : Type 0
  where
    pub low_is : IsLow low (series_of samples)
    pub are_levels : AreNumbers low step (series_of samples) levels
    pub small_levels : (p : ℕ) → number_in levels p < MOST_GRAINS
    pub levels_within : (p : ℕ) → number_in levels p * step ≤ range
    pub are_floors : AreFloors low s grain (series_of samples) floors (length floors)
    pub small_floors : (p : ℕ) → number_in floors p ≤ MOST_GRAINS
    pub are_groups : AreGroups low s grain (series_of samples) least greatest (length least)
    pub small_groups : (g : ℕ) → number_in greatest g ≤ MOST_GRAINS
