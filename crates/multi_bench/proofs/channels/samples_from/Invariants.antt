use Rattle.std.proofs.Common.{◌≡◌, vec_len}
use Rattle.multi_bench.proofs.channels.samples_from.Given as goal

abbrev pub invariant-loop-k : goal.invariant-loop-k
invariant-loop-k l = vec_len l.part ≡ l.k
