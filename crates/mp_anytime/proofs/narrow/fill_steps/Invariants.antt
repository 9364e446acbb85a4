use Rattle.std.proofs.Common.{◌≡◌, ℕ, ◌+◌, ◌<◌, length, ℤ, pos, ◌-ℤ◌}
use Rattle.mp_sums.specs.Residues.{item}
use Rattle.mp_defs.specs.Distance.{squared_difference}
use Rattle.mp_anytime.specs.Narrow.{AreNarrow}
use Rattle.mp_anytime.proofs.narrow.fill_steps.Given as goal

abbrev pub invariant-loop-k : goal.invariant-loop-k
invariant-loop-k l = record {
  places : length l.steps ≡ length l.initial.steps;
  done : (n : ℕ) (x : ℕ → ℤ) → AreNarrow n x l.numbers → (q : ℕ) → q < l.k → l.row + l.m + q < n
      → l.column + l.m + q < n → item l.steps q ≡ pos
      (squared_difference (x (l.row + l.m + q)) (x (l.column + l.m + q)))
      -ℤ pos (squared_difference (x (l.row + q)) (x (l.column + q)));
}
