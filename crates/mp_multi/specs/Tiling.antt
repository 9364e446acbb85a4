-- The tiles of several channels as the pieces of a kernel.
use Rattle.std.specs.Prelude.{◌≡◌, ℕ, ◌+◌, List, [], ◌∷◌, length, slice_index_or, map, All}
use Rattle.mp_nums.specs.declared.samples.Sample.{Sample}
use Rattle.mp_defs.specs.Series.{series_of}
use Rattle.mp_defs.specs.Window.{windows, excl}
use Rattle.mp_results.specs.Multi.{multi_of}
use Rattle.mp_partial.specs.Values.{Value, merged_columns, empty_columns, merged_below}
use Rattle.mp_cuts.specs.declared.cuts.Tile.{Tile}
use Rattle.mp_cuts.specs.Pairs.{IsTileBetween}
use Rattle.mp_tiles.specs.declared.near.Bands.{Bands}
use Rattle.mp_tiles.specs.Near.{IsBands}
use Rattle.mp_multi.specs.Conditions.{AreChannels}
use Rattle.mp_multi.specs.Tiles.{tile_value}

-- what is seen of the kernel: the channels, the length of a window, how many are taken together, and the tiles
pub record MultiTiling : Type 0 where
  pub channels : List (List Sample)
  pub m : ℕ
  pub k : ℕ
  pub tiles : List Tile

-- how many windows the channels have
abbrev pub window_count : ℕ → List (List Sample) → ℕ
window_count m channels = windows (length (slice_index_or channels 0 [])) m

-- what its fields keep to, of so many channels
pub record IsMultiTiling (number : ℕ) (multi : MultiTiling) : Type 0 where
  pub channels : AreChannels multi.channels multi.m multi.k
  pub count : length multi.channels ≡ number
  pub each : All (IsTileBetween (excl multi.m + 1) (window_count multi.m multi.channels)
      (window_count multi.m multi.channels)) multi.tiles

-- what the bands of the windows that start close together keep to, of so many channels
pub record IsNearTiling (number : ℕ) (list : List (List Sample)) (m k : ℕ) (bands : Bands) : Type 0 where
  pub channels : AreChannels list m k
  pub count : length list ≡ number
  pub are_bands : IsBands (excl m + 1) (window_count m list) bands

-- the number of windows
abbrev pub multi_size : MultiTiling → ℕ
multi_size multi = window_count multi.m multi.channels

-- the value of piece n: the multidimensional profile of the pairs of tile n
abbrev pub multi_value : MultiTiling → ℕ → Value
multi_value multi n = tile_value multi.m multi.k (map series_of multi.channels) multi.tiles n

-- the values of all pieces together
abbrev pub multi_together : MultiTiling → Value
multi_together multi =
    merged_below merged_columns (empty_columns 1 (multi_size multi)) (multi_value multi) (length multi.tiles)

-- what all tiles of the channels have together: their multidimensional profile
abbrev pub multi_whole : MultiTiling → Value
multi_whole multi = multi_of multi.m multi.k (map series_of multi.channels) ∷ []
