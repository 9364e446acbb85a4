-- The pairs of windows along a diagonal.
use Rattle.std.specs.Prelude.{◌≡◌, ℕ, ◌+◌, ◌-◌, ◌<◌, Bool, ◌==◌, ◌&&◌, ◌||◌, nat_le, nat_lt, List, length}
use Rattle.std.specs.Prelude.{slice_index_or, false}
use Rattle.std.specs.Prelude.{if◌then◌else◌, Some, None, IfSome}
use Rattle.std.specs.Int.{abs_diff, bit_at}
use Rattle.mp_nums.specs.declared.nearest.Near.{Near}
use Rattle.mp_defs.specs.Series.{Series}
use Rattle.mp_defs.specs.Window.{is_free}
use Rattle.mp_defs.specs.Profile.{windows_of}
use Rattle.mp_defs.specs.Distance.{distance}
use Rattle.mp_partial.specs.Profiled.{Profiled}
use Rattle.mp_partial.specs.Values.{Column}
use Rattle.mp_scans.specs.Offering.{only}
use Rattle.mp_tiles.specs.Scanning.{HasPlaces, IsScanned}
use Rattle.mp_results.specs.Covering.{is_covered}

-- window j starts so far behind window i, which is one from first on and before end
abbrev pub is_pair_from : ℕ → ℕ → ℕ → ℕ → ℕ → Bool
is_pair_from offset first end i j = (i + offset == j) && (nat_le first i && nat_lt i end)

-- the same of 32 windows i from first on, of which those are left out that come from place k on and whose bit isn't set
abbrev pub is_pair_done : ℕ → ℕ → ℕ → ℕ → ℕ → ℕ → Bool
is_pair_done offset first bits k i j =
    is_pair_from offset first (first + 32) i j && (nat_lt i (first + k) || (bit_at bits (i - first) == 1))

-- window j starts so far behind window i
abbrev pub starts_behind : ℕ → ℕ → ℕ → Bool
starts_behind offset i j = i + offset == j

-- two windows start so far apart
abbrev pub lie_apart : ℕ → ℕ → ℕ → Bool
lie_apart offset i j = offset == abs_diff i j

-- for each window whether it is free
pub record AreFree (m : ℕ) (a : Series) (free : List Bool) : Type 0 where
  pub places : length free ≡ windows_of m a
  pub each : (i : ℕ) → i < windows_of m a → slice_index_or free i false ≡ is_free m a i

-- windows i and j are both free, or there is no distance: where they have one, they were offered to each other
abbrev pub IsPairTaken : ℕ → ℕ → Bool → ℕ → Profiled → Profiled → Type 0
IsPairTaken i j both_free dist old new = (m : ℕ) (a : Series)
    → HasPlaces (windows_of m a) old → j < windows_of m a
    → distance m a i a j ≡ (if both_free then Some dist else None) → IsScanned (only i j) m a old new

-- what stands in each slot is so
pub record AreEach (P : ℕ → Near → Type 0) (slots : Column) : Type 0 where
  pub each : (k : ℕ) → k < length slots → IfSome (slice_index_or slots k None) (P k)

-- each slot has an earlier window than its own, or none
abbrev pub AreEarlier : Column → Type 0
AreEarlier slots = AreEach (λ k near. near.index < k) slots

-- or a later one of so many windows
abbrev pub AreLater : ℕ → Column → Type 0
AreLater w slots = AreEach (λ k near. (k < near.index) × (near.index < w)) slots

-- they start as far apart as one of some diagonals says
abbrev pub lie_along : List ℕ → ℕ → ℕ → Bool
lie_along covered i j = is_covered covered (abs_diff i j)
