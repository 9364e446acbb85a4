-- Vectors of thirty-two signed numbers.
use Rattle.std.specs.Prelude.{◌≡◌, ℕ, ◌<◌, List, length, ℤ, ◌<ℤ◌, ◌≤ℤ◌, FitsSigned, ◌⊎◌}
use Rattle.std.specs.Int.{w32}
use Rattle.mp_sums.specs.Residues.{item}
use Rattle.mp_scans.specs.declared.vectors.TheConstants.{LANES}

pub record AreLanes (v : List ℤ) : Type 0 where
  pub count : length v ≡ LANES
  pub fit : (t : ℕ) → t < LANES → FitsSigned w32 (item v t)

-- a residue is above the limit of its row and that of its column
abbrev pub IsAbove : ℤ → ℤ → ℤ → Type 0
IsAbove row column residue = (row <ℤ residue) × (column <ℤ residue)

-- the first two are the other two, the lesser first
pub record AreInOrder (least most a b : ℤ) : Type 0 where
  pub order : least ≤ℤ most
  pub same : ((least ≡ a) × (most ≡ b)) ⊎ ((least ≡ b) × (most ≡ a))

-- the number itself from a floor on, and the floor where it is below
pub record IsRaised (floor old new : ℤ) : Type 0 where
  pub least : floor ≤ℤ new
  pub same : (new ≡ old) ⊎ ((new ≡ floor) × (old ≤ℤ floor))
