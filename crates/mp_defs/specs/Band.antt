-- The windows that lie in the last samples of a series, which are all that is kept of it, and their nearest windows.
use Rattle.std.specs.Prelude.{ℕ, ◌+◌, ◌-◌, Bool, ◌&&◌, nat_le, List, Option}
use Rattle.std.specs.Int.{abs_diff}
use Rattle.mp_nums.specs.declared.nearest.Near.{Near}
use Rattle.mp_defs.specs.Window.{is_allowed, windows}
use Rattle.mp_defs.specs.Profile.{column}

-- window j lies outside the exclusion zone of window i, and both may lie in samples that are kept at one time
abbrev pub is_allowed_in : ℕ → ℕ → ℕ → ℕ → Bool
is_allowed_in keep m i j = is_allowed m i j && nat_le (abs_diff i j) (keep - m)

-- of so many samples the first that is among the last ones to be kept
abbrev pub first_kept : ℕ → ℕ → ℕ
first_kept keep count = count - keep

-- the live windows start at the first sample that is kept or later: how many there are
abbrev pub live_windows : ℕ → ℕ → ℕ → ℕ
live_windows keep m count = windows count m - first_kept keep count

-- what stands at each of them
abbrev pub live_column : (ℕ → Option Near) → ℕ → ℕ → ℕ → List (Option Near)
live_column f keep m count = column (λ place. f (first_kept keep count + place)) (live_windows keep m count)
