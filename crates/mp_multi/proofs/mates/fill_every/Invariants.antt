use Rattle.std.proofs.Common.{◌≡◌, length}
use Rattle.mp_multi.proofs.mates.fill_every.Given as goal

abbrev pub invariant-loop-k : goal.invariant-loop-k
invariant-loop-k l = length l.some ≡ length l.initial.some
