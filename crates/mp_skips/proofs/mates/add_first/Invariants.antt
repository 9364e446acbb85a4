use Rattle.std.proofs.Common.{◌≡◌, length}
use Rattle.mp_skips.proofs.mates.add_first.Given as goal

abbrev pub invariant-loop-t : goal.invariant-loop-t
invariant-loop-t l = length l.sums ≡ 8
