-- The lists of a series in plain numbers and in coarse sums.
use Rattle.std.specs.Prelude.{◌≡◌, ℕ, ◌*◌, ◌^◌, ◌<◌, ◌≤◌, List, length, Bool, ℤ}
use Rattle.mp_nums.specs.declared.samples.Sample.{Sample}
use Rattle.mp_defs.specs.Series.{series_of}
use Rattle.mp_defs.specs.Profile.{windows_of}
use Rattle.mp_scans.specs.Free.{AreFree}
use Rattle.mp_skips.specs.Sums.{number_in, IsLow, AreNumbers, AreFloors, AreGroups}
use Rattle.mp_skips.specs.declared.sums.TheConstants.{MOST_GRAINS}

-- how many steps samples lie above a low number, a range at most, the sums of s of them from each place on in grains,
-- what bounds those of each eight places, and which windows of m samples lack none. There are places for all samples
pub record AreLists (low : ℤ) (range s step grain m : ℕ) (samples : List Sample)
    (levels floors least greatest : List ℕ) (free : List Bool) : Type 0 where
  pub low_is : IsLow low (series_of samples)
  pub are_levels : AreNumbers low step (series_of samples) levels
  pub more_levels : length samples < length levels
  pub few_levels : length levels < 2 ^ 62
  pub small_levels : (p : ℕ) → number_in levels p < MOST_GRAINS
  pub levels_within : (p : ℕ) → number_in levels p * step ≤ range
  pub are_floors : AreFloors low s grain (series_of samples) floors (length floors)
  pub all_floors : length samples ≤ length floors
  pub small_floors : (p : ℕ) → number_in floors p ≤ MOST_GRAINS
  pub are_groups : AreGroups low s grain (series_of samples) least greatest (length least)
  pub all_groups : length samples ≤ 8 * length least
  pub same_groups : length greatest ≡ length least
  pub small_groups : (g : ℕ) → number_in greatest g ≤ MOST_GRAINS
  pub marks : AreFree m (series_of samples) 0 free
  pub all_windows : windows_of m (series_of samples) ≤ length free
