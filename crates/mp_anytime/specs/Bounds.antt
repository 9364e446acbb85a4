-- Bounds of residues, above which pairs of windows give nothing.
use Rattle.std.specs.Prelude.{◌≡◌, ℕ, ◌+◌, ◌*◌, ◌/◌, ◌^◌, ◌<◌, ◌≤◌, Bool, List, []}
use Rattle.std.specs.Prelude.{◌∷◌, length, slice_index_or, Option}
use Rattle.std.specs.Prelude.{Some, None}
use Rattle.std.specs.Prelude.{◌-◌, ◌&&◌, nat_lt, if◌then◌else◌, map}
use Rattle.std.specs.Prelude.{ℤ, ◌<ℤ◌, ◌≤ℤ◌}
use Rattle.mp_nums.specs.declared.nearest.Near.{Near}
use Rattle.mp_defs.specs.Series.{Series}
use Rattle.mp_defs.specs.Distance.{distance}
use Rattle.mp_defs.specs.Profile.{column, windows_of}
use Rattle.mp_sums.specs.Residues.{item, residue}
use Rattle.mp_series.specs.declared.limits.TheConstants.{MAX_SAMPLES}
use Rattle.mp_partial.specs.Values.{Column, Value, merged_column}
use Rattle.mp_partial.specs.Profiled.{Profiled}
use Rattle.mp_scans.specs.Slots.{Covers}
use Rattle.mp_scans.specs.declared.plans.Plan.{Plan}
use Rattle.mp_tiles.specs.Scanning.{HasPlaces, IsScanned}
use Rattle.mp_anytime.specs.Rounded.{rounded_sum, series_in}

-- where the sum of two windows' rounded samples, or a part of it, has this residue, a window at their distance gives
-- the slot nothing
pub record IsQuiet (m shift : ℕ) (slot : Option Near) (r : ℤ) : Type 0 where
  pub nothing : (a : Series) (i j d sum index : ℕ) → distance m a i a j ≡ Some d
      → sum ≤ rounded_sum m shift a i j → r ≡ residue sum → Covers slot index d

-- that is so for each residue above the bound
pub record IsBound (m shift : ℕ) (slot : Option Near) (bound : ℤ) : Type 0 where
  pub above : (r : ℤ) → bound <ℤ r → IsQuiet m shift slot r

-- for each slot a bound
pub record AreBounds (m shift : ℕ) (slots : Column) (bounds : List ℤ) : Type 0 where
  pub places : length bounds ≡ length slots
  pub each : (k : ℕ) → k < length slots → IsBound m shift (slice_index_or slots k None) (item bounds k)

-- for each block of 32 a number that none of its numbers exceeds
pub record AreGreatest (numbers blocks : List ℤ) : Type 0 where
  pub places : length numbers ≤ 32 * length blocks
  pub each : (k : ℕ) → k < length numbers → item numbers k ≤ℤ item blocks (k / 32)

-- a window and its distance have a number together
pub record IsSmall (near : Near) : Type 0 where
  pub start : near.index < MAX_SAMPLES
  pub dist : near.dist.0 + 1 < 2 ^ 110

-- whether they have
abbrev pub has_number : Near → Bool
has_number near = nat_lt near.index MAX_SAMPLES && nat_lt near.dist.0 (2 ^ 110 - 1)

-- a window has a residue of 31 bits for its distance
abbrev pub has_residue : Near → Bool
has_residue near = nat_lt near.index MAX_SAMPLES && nat_lt near.dist.0 (2 ^ 31)

-- a slot whose window fits, or none
abbrev pub numbered : (Near → Bool) → Option Near → Option Near
numbered fits None = None
numbered fits (Some near) = if fits near then Some near else None

abbrev pub numbered_slots : (Near → Bool) → Column → Column
numbered_slots fits slots = map (numbered fits) slots

-- what was found on one side, the bounds that its windows keep to, and in how much memory
pub record OneSided : Type 0 where
  pub slots : Column
  pub bounds : List ℤ
  pub room : ℕ

-- what was found on both sides, and in how much memory
abbrev pub both_sides : Column → Column → ℕ → Profiled
both_sides left right room = record {
  all = merged_column left right;
  left = left;
  right = right;
  spare = 0;
  room = room;
}

-- what was found, and how samples are rounded of which residues are known to give nothing
pub record Bounded : Type 0 where
  pub profile : Profiled
  pub m : ℕ
  pub shift : ℕ

-- it is of a plan's windows, and by its rounding
pub record IsFor (plan : Plan) (found : Bounded) : Type 0 where
  pub m_is : found.m ≡ plan.grid.m
  pub shift_is : found.shift ≡ plan.rounding.shift
  pub places : HasPlaces (windows_of plan.grid.m (series_in plan)) found.profile

-- these pairs of them are taken
pub record AreTaken (plan : Plan) (pairs : ℕ → ℕ → Bool) (old new : Bounded) : Type 0 where
  pub scanned : IsScanned pairs plan.grid.m (series_in plan) old.profile new.profile
  pub same_m : new.m ≡ old.m
  pub same_shift : new.shift ≡ old.shift

-- the first n of them
abbrev pub numbered_column : (Near → Bool) → ℕ → Column → Column
numbered_column fits n slots = column (λ k. numbered fits (slice_index_or slots k None)) n

-- both sides of what is kept, as far as its windows fit
abbrev pub kept_sides : (Near → Bool) → Profiled → Profiled
kept_sides fits kept =
    both_sides (numbered_column fits (length kept.all) kept.left) (numbered_column fits (length kept.all) kept.right) 0

-- the same once for each of so many pieces
pub record KeptPieces : Type 0 where
  pub profile : Profiled
  pub pieces : ℕ

abbrev pub columns_of : Profiled → Value
columns_of p = p.all ∷ p.left ∷ p.right ∷ []
