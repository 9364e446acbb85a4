-- The profile of the pairs of windows whose diagonals are covered.
use Rattle.std.specs.Prelude.{ℕ, Bool, ◌&&◌, List}
use Rattle.std.specs.Int.{abs_diff}
use Rattle.mp_defs.specs.Series.{Series}
use Rattle.mp_defs.specs.Window.{is_allowed}
use Rattle.mp_defs.specs.Profile.{Columns, profile}
use Rattle.mp_results.specs.Covering.{is_covered}

-- window j lies outside the exclusion zone of window i, on a covered diagonal
abbrev pub is_allowed_along : List ℕ → ℕ → ℕ → ℕ → Bool
is_allowed_along covered m i j = is_allowed m i j && is_covered covered (abs_diff i j)

-- for each window the nearest of those that it may be compared with
abbrev pub lazy_profile : ℕ → List ℕ → Series → Columns
lazy_profile m covered a = profile (is_allowed_along covered m) m a
