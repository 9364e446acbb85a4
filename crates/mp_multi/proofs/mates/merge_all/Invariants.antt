use Rattle.std.proofs.Common.{◌≡◌, length}
use Rattle.mp_multi.proofs.mates.merge_all.Given as goal

abbrev pub invariant-loop-k : goal.invariant-loop-k
invariant-loop-k l = length l.mates ≡ length l.initial.mates
