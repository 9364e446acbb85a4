-- Residues of one window and of successive others.
use Rattle.std.specs.Prelude.{ℕ, ◌+◌, ◌<◌, ◌≡◌, List, length, ℤ}
use Rattle.mp_sums.specs.Sums.{square_sum}
use Rattle.mp_sums.specs.Residues.{residue, item}

-- the residues of the windows of m numbers at i in x, and from j on in y
pub record AreResidues (m : ℕ) (x : ℕ → ℤ) (i : ℕ) (y : ℕ → ℤ) (j : ℕ) (residues : List ℤ) : Type 0 where
  pub each : (t : ℕ) → t < length residues → item residues t ≡ residue (square_sum m x i y (j + t))
