use Rattle.std.proofs.Common.{◌≡◌, ℕ, ◌+◌, ◌<◌, ◌≤◌, length}
use Rattle.mp_skips.specs.Sums.{number_in}
use Rattle.mp_skips.specs.Levels.{squares_in}
use Rattle.mp_skips.proofs.sums.Coarse.fill_distances.Given as goal

abbrev pub invariant-loop-r : goal.invariant-loop-r
invariant-loop-r l = record {
  sum : l.sum ≡ squares_in l.self l.self.plan.grid.m (l.row + l.r) (l.column + l.r);
  sums : (k : ℕ) → k < l.r
      → number_in l.dists k ≡ squares_in l.self l.self.plan.grid.m (l.row + k) (l.column + k);
  others : (k : ℕ) → l.r ≤ k → number_in l.dists k ≡ number_in l.initial.dists k;
  places : length l.dists ≡ length l.initial.dists;
}
