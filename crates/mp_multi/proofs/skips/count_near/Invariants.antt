use Rattle.std.proofs.Common.{◌≤◌}
use Rattle.mp_multi.proofs.skips.count_near.Given as goal

abbrev pub invariant-loop-l : goal.invariant-loop-l
invariant-loop-l g l = l.near ≤ l.l
