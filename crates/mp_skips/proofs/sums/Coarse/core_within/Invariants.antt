use Rattle.std.proofs.Common.{◌≡◌, ◌+◌, ◌-◌, ◌≤◌}
use Rattle.mp_skips.specs.Levels.{squares_in}
use Rattle.mp_skips.proofs.sums.Coarse.core_within.Given as goal

abbrev pub invariant-loop-place : goal.invariant-loop-place
invariant-loop-place l = record {
  after : l.behind ≤ l.place;
  before : l.place ≤ l.self.plan.grid.m;
  sum : l.sum ≡ squares_in l.self (l.place - l.behind) (l.row + l.behind) (l.column + l.behind);
}

abbrev pub decreases-loop-place : goal.decreases-loop-place
decreases-loop-place l = l.self.plan.grid.m - l.place
