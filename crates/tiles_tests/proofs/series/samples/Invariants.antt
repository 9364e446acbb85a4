use Rattle.std.proofs.Common.{◌≡◌, vec_len}
use Rattle.tiles_tests.proofs.series.samples.Given as goal

abbrev pub invariant-loop-number : goal.invariant-loop-number
invariant-loop-number l = vec_len l.samples ≡ l.number-index
