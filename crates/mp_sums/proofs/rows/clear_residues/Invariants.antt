use Rattle.std.proofs.Common.{◌≡◌, ℕ, ◌<◌, length, negsuc}
use Rattle.mp_sums.specs.Residues.{item}
use Rattle.mp_sums.proofs.rows.clear_residues.Given as goal

abbrev pub invariant-loop-t : goal.invariant-loop-t
invariant-loop-t l = record {
  places : length l.residues ≡ length l.initial.residues;
  done : (q : ℕ) → q < l.t → item l.residues q ≡ negsuc 2147483646;
}
