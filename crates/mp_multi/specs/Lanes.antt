-- What a lane of residues tells of the value of two windows.
use Rattle.std.specs.Prelude.{◌≡◌, ℕ, ◌+◌, ◌*◌, ◌<◌, ◌≤◌, List, [], length, slice_index_or, ℤ, negsuc, ◌≤ℤ◌, ◌<ℤ◌}
use Rattle.std.specs.Prelude.{FitsSigned, Option, Some, None, ◌⊎◌}
use Rattle.std.specs.Int.{w32}
use Rattle.mp_nums.specs.declared.nearest.Near.{Near}
use Rattle.mp_defs.specs.Series.{Series}
use Rattle.mp_results.specs.Multi.{channel_at, distance_in, pair_value}
use Rattle.mp_sums.specs.declared.limits.Limit.{Limit}
use Rattle.mp_sums.specs.Limits.{IsWithin}
use Rattle.mp_sums.specs.Residues.{item, rounded_residue, residue_limit}
use Rattle.mp_scans.specs.Lanes.{AreLanes}
use Rattle.mp_scans.specs.Slots.{Covers}
use Rattle.mp_scans.specs.declared.vectors.TheConstants.{LANES}

-- where the value of windows i and j is within a limit, their lane is no more than the limit's residue
pub record IsLane (m k shift : ℕ) (channels : List Series) (i j : ℕ) (lane : ℤ) : Type 0 where
  pub passes : (limit : Limit) (v : ℕ) → pair_value m k channels i j ≡ Some v → IsWithin limit v
      → lane ≤ℤ residue_limit (k * m) shift limit

-- those of a window and of thirty-two successive others
pub record AreLanesOf (m k shift : ℕ) (channels : List Series) (i j : ℕ) (v : List ℤ) : Type 0 where
  pub lanes : AreLanes v
  pub each : (t : ℕ) → t < LANES → IsLane m k shift channels i (j + t) (item v t)

-- of a series the residues of a window and of thirty-two successive others
pub record AreLanesIn (m shift : ℕ) (a : Series) (i j : ℕ) (residues : List ℤ) : Type 0 where
  pub lanes : AreLanes residues
  pub each : (t : ℕ) → t < LANES → item residues t ≡ rounded_residue m shift a i a (j + t)

-- the same of each channel
pub record AreChannelResidues (m shift : ℕ) (channels : List Series) (i j : ℕ)
    (residues : List (List ℤ)) : Type 0 where
  pub count : length residues ≡ length channels
  pub each : (c : ℕ) → c < length residues
      → AreLanesIn m shift (channel_at channels c) i j (slice_index_or residues c [])

-- the floor of a channel is the residue of the sum 0, save where none of these pairs has a distance in it
pub record AreFloors (m : ℕ) (channels : List Series) (i j : ℕ) (floors : List ℤ) : Type 0 where
  pub count : length floors ≡ length channels
  pub least : (c : ℕ) → c < length floors → negsuc 2147483646 ≤ℤ item floors c
  pub each : (c t : ℕ) → c < length floors → t < LANES
      → (item floors c ≡ negsuc 2147483646) ⊎ (distance_in m channels i (j + t) c ≡ None)

-- of the windows from first on whichever has a lane above the limit gives window i's slot nothing
pub record IsSlotLimit (m k shift : ℕ) (channels : List Series) (slot : Option Near) (i first : ℕ)
    (limit : ℤ) : Type 0
  where
    pub fits : FitsSigned w32 limit
    pub above : (j v : ℕ) (lane : ℤ) → first ≤ j → IsLane m k shift channels i j lane
        → pair_value m k channels i j ≡ Some v → limit <ℤ lane → Covers slot j v
