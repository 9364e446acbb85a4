use Rattle.std.proofs.Common.{◌≡◌, ℕ, ◌+◌, ◌<◌, length, ℤ, ◌+ℤ◌, w32}
use Rattle.std.specs.Int.{int_wrap}
use Rattle.mp_sums.specs.Residues.{item}
use Rattle.mp_anytime.proofs.rounded.add_up.Given as goal

abbrev pub invariant-loop-k : goal.invariant-loop-k
invariant-loop-k l = record {
  places : length l.residues ≡ length l.initial.residues;
  done : (count : ℕ) (r : ℕ → ℤ) → l.first ≡ r 0
      → ((q : ℕ) → q < length l.steps → q + 1 < count → int_wrap w32 (r q +ℤ item l.steps q) ≡ r (q + 1))
      → (l.k < count → l.residue ≡ r l.k) × ((q : ℕ) → q < l.k → q < count → item l.residues q ≡ r q);
}
