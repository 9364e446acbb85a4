-- The pairs of the last window, by their diagonals.
use Rattle.std.specs.Prelude.{◌≡◌, ℕ, ◌+◌, ◌-◌, ◌*◌, ◌^◌, ◌<◌, ◌≤◌, Bool, true}
use Rattle.std.specs.Prelude.{◌==◌, ◌&&◌, nat_le, nat_lt, List, length}
use Rattle.std.specs.Prelude.{slice_index, slice_index_or, None}
use Rattle.mp_nums.specs.declared.samples.Sample.{Sample}
use Rattle.mp_defs.specs.Series.{series_of}
use Rattle.mp_defs.specs.Window.{excl}
use Rattle.mp_partial.specs.Values.{Column}
use Rattle.mp_partial.specs.Profiled.{Profiled}
use Rattle.mp_results.specs.Covering.{is_covered}
use Rattle.mp_results.specs.Reversal.{numbers}
use Rattle.mp_tiles.specs.Scanning.{HasPlaces}
use Rattle.mp_anytime.specs.Kept.{IsSumAt}
use Rattle.mp_anytime.specs.Limits.{AreLimits}
use Rattle.mp_anytime.specs.Waiting.{AreWaiting}

-- window j is the last one and window i one before it, on a covered diagonal from first on and before end
abbrev pub is_last_from : List ℕ → ℕ → ℕ → ℕ → ℕ → ℕ → Bool
is_last_from covered last first end i j =
    (j == last) && (is_covered covered (last - i) && (nat_le first (last - i) && nat_lt (last - i) end))

-- a diagonal is covered, and lies behind the exclusion zone and before the last window
pub record IsCoveredWithin (m last : ℕ) (covered : List ℕ) (diagonal : ℕ) : Type 0 where
  pub is : is_covered covered diagonal ≡ true
  pub zone : excl m < diagonal
  pub within : diagonal < last

-- a column changed at one place at most
pub record ChangesAt (place : ℕ) (old new : Column) : Type 0 where
  pub places : length new ≡ length old
  pub others : (q : ℕ) → (q ≡ place → ⊥) → slice_index_or new q None ≡ slice_index_or old q None

-- of windows of m samples up to the last one: which diagonals are covered, the sums of their pairs with the last
-- window, and which diagonals wait
pub record IsRow (m : ℕ) (items : List Sample) (covered : List ℕ) (waiting : List Bool) (sums : List ℕ)
    (last : ℕ) : Type 0 where
  pub shortest : 1 ≤ m
  pub within : last + m ≡ length items
  pub few : last < numbers
  pub places : length sums ≡ last + 1
  pub waits : AreWaiting m (last + 1) covered waiting
  pub lasts : (d : ℕ) → d < last → is_covered covered d ≡ true
      → IsSumAt m (series_of items) (last - d) last (slice_index sums d)
  pub small : (d : ℕ) → d < last → is_covered covered d ≡ true → slice_index sums d < 2 ^ 63

-- the profile of the windows up to the last one, and its limits
pub record IsReady (last : ℕ) (profile : Profiled) (bounds : List ℕ) : Type 0 where
  pub places : HasPlaces (last + 1) profile
  pub limits : AreLimits profile.right bounds

-- the sum of a diagonal, in its upper and its lower 64 bits, is that of its pair with the last window, in 63 bits
pub record IsMovedSum (m : ℕ) (items : List Sample) (last d upper lower : ℕ) : Type 0 where
  pub sum : IsSumAt m (series_of items) (last - d) last (upper * 2 ^ 64 + lower)
  pub narrow : lower ≡ upper * 2 ^ 64 + lower
  pub small : upper * 2 ^ 64 + lower < 2 ^ 63
