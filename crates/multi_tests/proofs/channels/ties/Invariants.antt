use Rattle.std.proofs.Common.{◌≡◌, vec_len}
use Rattle.multi_tests.proofs.channels.ties.Given as goal

abbrev pub invariant-loop : goal.invariant-loop
invariant-loop l = vec_len l.samples ≡ l.counter
