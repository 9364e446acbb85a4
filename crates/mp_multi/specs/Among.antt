-- What some pairs of windows alone give of several channels.
use Rattle.std.specs.Prelude.{◌≡◌, ℕ, ◌+◌, Bool, ◌&&◌, ◌==◌, nat_le, nat_lt, List, map, Option}
use Rattle.mp_nums.specs.declared.samples.Sample.{Sample}
use Rattle.mp_defs.specs.Series.{Series, series_of}
use Rattle.mp_defs.specs.Least.{candidate, near}
use Rattle.mp_defs.specs.Profile.{column}
use Rattle.mp_results.specs.Multi.{windows_in, pair_value}
use Rattle.mp_partial.specs.Values.{Column, merged_column}
use Rattle.mp_tiles.specs.Among.{either_way}

-- for each of w windows, by a value of each two of them, the one of least value among those that make a pair with it
abbrev pub least_column : (ℕ → ℕ → Bool) → (ℕ → ℕ → Option ℕ) → ℕ → Column
least_column pairs value w = column (λ i. near (candidate (pairs i) (value i)) w) w

-- the multidimensional profile in which the windows of each pair are compared, and no others
abbrev pub multi_among : (ℕ → ℕ → Bool) → ℕ → ℕ → List Series → Column
multi_among pairs m k channels =
    least_column (either_way pairs) (pair_value m k channels) (windows_in m channels)

-- slots have taken what these pairs give
abbrev pub TakesAmong : (ℕ → ℕ → Bool) → ℕ → ℕ → List (List Sample) → Column → Column → Type 0
TakesAmong pairs m k channels old new = new ≡ merged_column old (multi_among pairs m k (map series_of channels))

-- window j starts so far behind window i, which is from row on and before end
abbrev pub on_diagonal : ℕ → ℕ → ℕ → ℕ → ℕ → Bool
on_diagonal row end apart i j = (j == i + apart) && (nat_le row i && nat_lt i end)
