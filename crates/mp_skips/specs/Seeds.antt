-- What pairs that are offered ahead of all others leave as it is.
use Rattle.std.specs.Prelude.{ℕ, Bool}
use Rattle.mp_defs.specs.Series.{Series}
use Rattle.mp_sums.specs.declared.distances.Grid.{Grid}
use Rattle.mp_scans.specs.Windows.{AreScannedIn}

-- what these pairs make of the new state they make of the old one too
pub record IsAhead {Into : Type 0} (is_scanned : ℕ → Series → Series → (ℕ → ℕ → Bool) → Into → Into
    → Type 0) (grid : Grid) (pairs : ℕ → ℕ → Bool) (old new : Into) : Type 0 where
  pub all : (after : Into) → AreScannedIn is_scanned grid pairs new after
      → AreScannedIn is_scanned grid pairs old after

-- the new state has what the old one had, and what some pairs give
abbrev pub AreSomeScanned : {Into : Type 0}
    → (ℕ → Series → Series → (ℕ → ℕ → Bool) → Into → Into → Type 0) → Grid
    → Into → Into → Type 0
AreSomeScanned is_scanned grid old new = (pairs : ℕ → ℕ → Bool) × AreScannedIn is_scanned grid pairs old new
