use Rattle.std.proofs.Common.{◌*◌, ◌≤◌}
use Rattle.mp_multi.proofs.skips.are_mostly_apart.Given as goal

abbrev pub invariant-loop-n : goal.invariant-loop-n
invariant-loop-n g l = l.staying ≤ 8 * l.n
