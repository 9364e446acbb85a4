use Rattle.std.proofs.Common.{◌≡◌, length}
use Rattle.mp_multi.proofs.mates.insert.Given as goal

abbrev pub invariant-loop-p : goal.invariant-loop-p
invariant-loop-p l = length l.kept ≡ length l.initial.kept
