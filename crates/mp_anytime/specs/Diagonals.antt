-- The diagonals of a series as the pieces of a kernel.
use Rattle.std.specs.Prelude.{ℕ, ◌<◌, ◌≤◌, List, length, slice_index, All}
use Rattle.mp_nums.specs.declared.samples.Sample.{Sample}
use Rattle.mp_defs.specs.Series.{series_of}
use Rattle.mp_defs.specs.Window.{windows as windows_in}
use Rattle.mp_defs.specs.Profile.{profile}
use Rattle.mp_partial.specs.Values.{Value}
use Rattle.mp_tiles.specs.Among.{columns_value}
use Rattle.mp_anytime.specs.Scanning.{lie_apart}

-- what is seen of the kernel: the samples, the length of a window, and how far the windows of each piece start apart
pub record Along : Type 0 where
  pub samples : List Sample
  pub m : ℕ
  pub offsets : List ℕ

-- what its fields keep to
pub record IsAlong (windows : ℕ) (offsets : List ℕ) : Type 0 where
  pub apart : All (λ offset. 1 ≤ offset) offsets
  pub within : All (λ offset. offset < windows) offsets

-- the number of windows
abbrev pub along_size : Along → ℕ
along_size along = windows_in (length along.samples) along.m

-- the value of piece k: the profile of the pairs that start so far apart
abbrev pub along_value : Along → ℕ → Value
along_value along k =
    columns_value (profile (lie_apart (slice_index along.offsets k)) along.m (series_of along.samples))
