use Rattle.std.proofs.Common.{◌≡◌, vec_len}
use Rattle.multi_tests.proofs.channels.walk.Given as goal

abbrev pub invariant-loop-place : goal.invariant-loop-place
invariant-loop-place l = vec_len l.samples ≡ l.place
