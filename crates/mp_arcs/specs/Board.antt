-- What is kept of arcs: how many begin and how many end at each place.
use Rattle.std.specs.Prelude.{◌≡◌, ℕ, ◌<◌, ◌≤◌, min, max, Bool, false, ◌==◌, List, length, count_by}
use Rattle.std.specs.Prelude.{slice_index, Option, None, Some}
use Rattle.std.specs.List.{enumerate_from}
use Rattle.mp_results.specs.Arcs.{NameWithin}
use Rattle.mp_series.specs.declared.limits.TheConstants.{MAX_SAMPLES}

-- window i has an arc, whose lesser or whose greater end is t
abbrev pub has_end : (ℕ → ℕ → ℕ) → ℕ → ℕ × Option ℕ → Bool
has_end which t (i, None) = false
has_end which t (i, Some j) = which i j == t

-- how many arcs have that end at t
abbrev pub ends_at : (ℕ → ℕ → ℕ) → List (Option ℕ) → ℕ → ℕ
ends_at which indices t = count_by (has_end which t) (enumerate_from 0 indices)

abbrev pub begun_at : List (Option ℕ) → ℕ → ℕ
begun_at = ends_at min

abbrev pub ended_at : List (Option ℕ) → ℕ → ℕ
ended_at = ends_at max

-- so many ends are at each place
pub record CountEnds (which : ℕ → ℕ → ℕ) (indices : List (Option ℕ)) (counts : List ℕ) : Type 0 where
  pub as_long : length counts ≡ length indices
  pub each : (t : ℕ) → t < length indices → slice_index counts t ≡ ends_at which indices t

-- so many arcs of these windows begin and end at each place
pub record AreEnds (indices : List (Option ℕ)) (begun ended : List ℕ) : Type 0 where
  pub few : length indices ≤ MAX_SAMPLES
  pub named : NameWithin indices
  pub begun_is : CountEnds min indices begun
  pub ended_is : CountEnds max indices ended
