-- The multidimensional profile: for each window its nearest one by the k channels in which they lie nearest.
use Rattle.std.specs.Prelude.{ℕ, List, [], length, slice_index_or, Option}
use Rattle.mp_nums.specs.declared.nearest.Near.{Near}
use Rattle.mp_defs.specs.Series.{Series}
use Rattle.mp_defs.specs.Window.{is_allowed}
use Rattle.mp_defs.specs.Distance.{distance}
use Rattle.mp_defs.specs.Least.{candidate, near}
use Rattle.mp_defs.specs.Profile.{windows_of, column}
use Rattle.mp_results.specs.Rising.{rising, sum_of_first}

-- a channel, counted from 0
abbrev pub channel_at : List Series → ℕ → Series
channel_at channels c = slice_index_or channels c []

-- how many windows the channels have
abbrev pub windows_in : ℕ → List Series → ℕ
windows_in m channels = windows_of m (channel_at channels 0)

-- the distance of windows i and j in channel c, none where one of them has a missing sample there
abbrev pub distance_in : ℕ → List Series → ℕ → ℕ → ℕ → Option ℕ
distance_in m channels i j c = distance m (channel_at channels c) i (channel_at channels c) j

-- the sum of the k least of these, none where fewer than k channels have one
abbrev pub pair_value : ℕ → ℕ → List Series → ℕ → ℕ → Option ℕ
pair_value m k channels i j = sum_of_first k (rising (distance_in m channels i j) (length channels))

-- the entry of window i: of the windows outside its exclusion zone the one of least value, the first among equals
abbrev pub multi_entry : ℕ → ℕ → List Series → ℕ → Option Near
multi_entry m k channels i = near (candidate (is_allowed m i) (pair_value m k channels i)) (windows_in m channels)

-- the multidimensional profile
abbrev pub multi_of : ℕ → ℕ → List Series → List (Option Near)
multi_of m k channels = column (multi_entry m k channels) (windows_in m channels)
