use Rattle.std.proofs.Common.{◌≡◌, vec_len}
use Rattle.tiles_tests.proofs.series.waves.Given as goal

abbrev pub invariant-loop-k : goal.invariant-loop-k
invariant-loop-k l = vec_len l.samples ≡ l.k
