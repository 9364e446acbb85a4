use Rattle.std.proofs.Common.{◌≤◌}
use Rattle.mp_skips.proofs.trials.count_near.Given as goal

abbrev pub invariant-loop-l : goal.invariant-loop-l
invariant-loop-l l = l.near ≤ l.l
