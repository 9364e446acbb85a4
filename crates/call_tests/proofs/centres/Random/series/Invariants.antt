use Rattle.std.proofs.Common.{◌≡◌, length}
use Rattle.call_tests.proofs.centres.Random.series.Given as goal

abbrev pub invariant-loop : goal.invariant-loop
invariant-loop l = length l.samples.items ≡ l.counter
