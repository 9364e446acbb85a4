use Rattle.std.proofs.Common.{◌≤◌}
use Rattle.mp_pan.proofs.lengths.Lengths.reach.Given as goal

abbrev pub invariant-loop-k : goal.invariant-loop-k
invariant-loop-k l = 1 ≤ l.k
