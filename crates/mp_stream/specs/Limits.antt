-- Below which distance a window is nearer than the one that was found.
use Rattle.std.specs.Prelude.{◌≡◌, ℕ, ◌+◌, ◌/◌, ◌^◌, ◌<◌, ◌≤◌, List, length, slice_index, slice_index_or, min, Bool}
use Rattle.std.specs.Prelude.{true, false, Option, Some, None, ⊤}
use Rattle.mp_nums.specs.declared.nearest.Near.{Near}

-- the limit of what was found, for sums below 2 ^ 63
abbrev pub limit_of : Option Near → ℕ
limit_of None = 2 ^ 63
limit_of (Some found) = min found.dist.0 (2 ^ 63)

-- wider sums are compared by how often 2 ^ 16 goes into them
abbrev pub coarse : ℕ → ℕ
coarse sum = sum / 2 ^ 16

-- their limit
abbrev pub coarse_limit : Option Near → ℕ
coarse_limit None = 2 ^ 63
coarse_limit (Some found) = min (coarse found.dist.0 + 1) (2 ^ 63)

abbrev pub limit_by : Bool → Option Near → ℕ
limit_by true found = limit_of found
limit_by false found = coarse_limit found

-- the limit of each place of a column
pub record AreLimits (limit : Option Near → ℕ) (column : List (Option Near)) (limits : List ℕ) : Type 0 where
  pub places : length limits ≡ length column
  pub each : (i : ℕ) → i < length column → slice_index limits i ≡ limit (slice_index_or column i None)

-- the window that was found, where there is one, starts at most at a place
abbrev pub StartsAtMost : ℕ → Option Near → Type 0
StartsAtMost j None = ⊤
StartsAtMost j (Some found) = found.index ≤ j

-- each window of a column does
abbrev pub AllStartAtMost : ℕ → List (Option Near) → Type 0
AllStartAtMost j column = (i : ℕ) → StartsAtMost j (slice_index_or column i None)
