-- Slots that residues tell, and how windows are taken into them.
use Rattle.std.specs.Prelude.{◌≡◌, ℕ, zero, suc, ◌+◌, ◌<◌, ◌==◌, List, length, Option, Some, None}
use Rattle.std.specs.Prelude.{if◌then◌else◌, ℤ, ◌-ℤ◌, ◌≤ℤ◌, unsigned_abs}
use Rattle.std.specs.Simd.Lanes.{zip2}
use Rattle.mp_nums.specs.declared.nearest.Near.{Near}
use Rattle.mp_defs.specs.Least.{near_at}
use Rattle.mp_sums.specs.Residues.{item}
use Rattle.mp_sums.specs.declared.residues.TheConstants.{ALWAYS, ZERO}
use Rattle.mp_partial.specs.Values.{Column}
use Rattle.mp_partial.specs.Profiled.{Profiled}
use Rattle.mp_scans.specs.declared.plans.Plan.{Plan}
use Rattle.mp_tiles.specs.Scanning.{taken}
use Rattle.mp_anytime.specs.Bounds.{Bounded}

-- the sum of which a number is the residue
abbrev pub told : ℤ → ℕ
told r = unsigned_abs (r -ℤ ZERO)

-- it is the residue of one
pub record IsTold (r : ℤ) : Type 0 where
  pub least : ZERO ≤ℤ r
  pub most : r ≤ℤ ALWAYS

pub record AreTold (rs : List ℤ) : Type 0 where
  pub each : (k : ℕ) → k < length rs → IsTold (item rs k)

-- the window that starts there, at a distance. The greatest one stands for none
abbrev pub slot_at : ℕ → ℕ → Option Near
slot_at sum start = if sum == 4294967294 then None else Some (near_at start sum)

-- the same at the distance that a residue tells
abbrev pub slot_by : ℤ → ℕ → Option Near
slot_by r start = slot_at (told r) start

abbrev pub slots_by : List ℤ → List ℕ → Column
slots_by rs starts = zip2 slot_by rs starts

-- no number is greater than it was
pub record AreLower (old new : List ℤ) : Type 0 where
  pub places : length new ≡ length old
  pub each : (k : ℕ) → k < length old → item new k ≤ℤ item old k

-- k successive places from one on take what is found for each
abbrev pub lanes_taken : Column → ℕ → (ℕ → Option Near) → ℕ → Column
lanes_taken slots place found zero = slots
lanes_taken slots place found (suc k) = taken (lanes_taken slots place found k) (place + k) (found k)

-- what is found for them by residues, where the first starts there
abbrev pub lanes_by : List ℤ → ℕ → ℕ → Option Near
lanes_by rs first k = slot_by (item rs k) (first + k)

-- what was found, as that of a plan's windows by its rounding
abbrev pub bounded_by : Plan → Profiled → Bounded
bounded_by plan found = record { profile = found; m = plan.grid.m; shift = plan.rounding.shift }
