use Rattle.std.proofs.Common.{◌≡◌, ℕ, ◌+◌, ◌<◌, ◌≤◌, length, ℤ, w32}
use Rattle.std.specs.Int.{int_wrap}
use Rattle.mp_sums.specs.Sums.{square_sum}
use Rattle.mp_sums.specs.Residues.{residue, item, AreNumbers}
use Rattle.mp_sums.specs.Rows.{AreResidues}
use Rattle.mp_sums.proofs.rows.add_squares.Given as goal

abbrev pub invariant-loop-t : goal.invariant-loop-t
invariant-loop-t l = record {
  places : length l.residues ≡ length l.initial.residues;
  done : (m : ℕ) (x : ℕ → ℤ) (i : ℕ) (y : ℕ → ℤ) (j : ℕ) → l.row ≡ int_wrap w32 (x (i + m))
      → AreNumbers y (j + m) l.columns → AreResidues m x i y j l.initial.residues → (q : ℕ) → q < l.t
      → item l.residues q ≡ residue (square_sum (m + 1) x i y (j + q));
  left : (q : ℕ) → l.t ≤ q → item l.residues q ≡ item l.initial.residues q;
}
