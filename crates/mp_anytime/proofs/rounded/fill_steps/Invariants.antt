use Rattle.std.proofs.Common.{◌≡◌, ℕ, ◌<◌, length, pos}
use Rattle.mp_sums.specs.Residues.{item, moved}
use Rattle.mp_anytime.proofs.rounded.fill_steps.Given as goal

abbrev pub invariant-loop-k : goal.invariant-loop-k
invariant-loop-k l = record {
  places : length l.steps ≡ length l.initial.steps;
  done : (q : ℕ) → q < l.k → item l.steps q ≡ moved (pos 0) (item l.rows.differences.now q) (item l.rows.sums.now q)
      (item l.columns.differences.now q) (item l.columns.sums.now q);
}
