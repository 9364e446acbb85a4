-- Below which sums a pair may be nearer than the window that was found.
use Rattle.std.specs.Prelude.{◌≡◌, ℕ, ◌+◌, ◌^◌, ◌<◌, List, length, slice_index, slice_index_or, min}
use Rattle.std.specs.Prelude.{Option, Some, None}
use Rattle.mp_nums.specs.declared.nearest.Near.{Near}
use Rattle.mp_partial.specs.Values.{Column}

-- the limit of what was found, for sums below 2 ^ 63: a sum that isn't below it is greater
abbrev pub limit_of : Option Near → ℕ
limit_of None = 2 ^ 63
limit_of (Some near) = min (near.dist.0 + 1) (2 ^ 63)

-- the limit of each place of a column
pub record AreLimits (column : Column) (limits : List ℕ) : Type 0 where
  pub places : length limits ≡ length column
  pub each : (i : ℕ) → i < length column → slice_index limits i ≡ limit_of (slice_index_or column i None)
