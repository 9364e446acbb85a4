use Rattle.std.proofs.Common.{◌≡◌, ◌-◌, length}
use Rattle.mp_skips.proofs.mates.compare_some.Given as goal

abbrev pub invariant-loop-behind : goal.invariant-loop-behind
invariant-loop-behind l = record {
  mates : length l.mates ≡ length l.initial.mates;
  least : length l.least ≡ length l.initial.least;
}

abbrev pub decreases-loop-behind : goal.decreases-loop-behind
decreases-loop-behind l = l.end - l.behind
