use Rattle.std.proofs.Common.{◌≤◌}
use Rattle.mp_multi.proofs.shifts.count_far.Given as goal

abbrev pub invariant-loop-k : goal.invariant-loop-k
invariant-loop-k l = l.far ≤ l.k
