use Rattle.std.proofs.Common.{◌≡◌, ℕ, ℤ}
use Rattle.mp_sums.specs.Sums.{square_sum}
use Rattle.mp_sums.specs.Residues.{residue, AreNumbers}
use Rattle.mp_sums.proofs.residues.first_residue.Given as goal

abbrev pub invariant-loop-k : goal.invariant-loop-k
invariant-loop-k l =
    (x : ℕ → ℤ) (i : ℕ) (y : ℕ → ℤ) (j : ℕ) → AreNumbers x i l.row → AreNumbers y j l.column
    → l.residue ≡ residue (square_sum l.k x i y j)
