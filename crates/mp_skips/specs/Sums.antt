-- The sums of a series above a low number, rounded down to grains, and what bounds those of eight places.
use Rattle.std.specs.Prelude.{◌≡◌, ℕ, ◌+◌, ◌-◌, ◌*◌, ◌<◌, ◌≤◌, List, slice_index_or, ℤ, ◌≤ℤ◌, Some}
use Rattle.mp_defs.specs.Series.{Series, number_at}
use Rattle.mp_skips.specs.Totals.{sum_from, level}
use Rattle.mp_skips.specs.Bounds.{IsFloor}

abbrev pub number_in : List ℕ → ℕ → ℕ
number_in xs p = slice_index_or xs p 0

-- no sample of a series lies below
pub record IsLow (low : ℤ) (a : Series) : Type 0 where
  pub each : (t : ℕ) (x : ℤ) → number_at a t ≡ Some x → low ≤ℤ x

-- plain numbers tell how many steps the samples of a series lie above a low number, rounded down
pub record AreNumbers (low : ℤ) (step : ℕ) (a : Series) (numbers : List ℕ) : Type 0 where
  pub each : (p : ℕ) → IsFloor step (level low a p) (number_in numbers p)

-- the sums of s samples above a low number from each of n places on, rounded down to grains
pub record AreFloors (low : ℤ) (s grain : ℕ) (a : Series) (floors : List ℕ) (n : ℕ) : Type 0 where
  pub each : (p : ℕ) → p < n → IsFloor grain (sum_from (level low a) s p) (number_in floors p)

-- the sums from eight successive places on lie from one number of grains on up to another. The lower one may be reached
-- by what is less than a grain above it, so that it also bounds sums that are rounded down
pub record IsGroup (low : ℤ) (s grain : ℕ) (a : Series) (g least greatest : ℕ) : Type 0 where
  pub lower : (u : ℕ) → u < 8 → 1 ≤ least → least * grain + grain ≤ sum_from (level low a) s (8 * g + u) + 1
  pub upper : (u : ℕ) → u < 8 → sum_from (level low a) s (8 * g + u) ≤ greatest * grain
  pub order : least ≤ greatest

-- the same of the first n groups of eight places
pub record AreGroups (low : ℤ) (s grain : ℕ) (a : Series) (least greatest : List ℕ) (n : ℕ) : Type 0 where
  pub each : (g : ℕ) → g < n → IsGroup low s grain a g (number_in least g) (number_in greatest g)

-- how far a number lies outside of two others
abbrev pub outside : ℕ → ℕ → ℕ → ℕ
outside p least greatest = (p - greatest) + (least - p)
