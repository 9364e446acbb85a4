use Rattle.std.proofs.Common.{◌≡◌, ℕ, ◌+◌, length, ℤ}
use Rattle.mp_sums.specs.Residues.{AreNumbers}
use Rattle.mp_sums.specs.Rows.{AreResidues}
use Rattle.mp_sums.proofs.rows.add_numbers.Given as goal

abbrev pub invariant-loop-k : goal.invariant-loop-k
invariant-loop-k l = record {
  places : length l.residues ≡ length l.initial.residues;
  done : (m : ℕ) (x : ℕ → ℤ) (i : ℕ) (y : ℕ → ℤ) (j : ℕ) → AreNumbers x (i + m) l.rows
      → AreNumbers y (j + m) l.columns → AreResidues m x i y j l.initial.residues
      → AreResidues (m + l.k) x i y j l.residues;
}
