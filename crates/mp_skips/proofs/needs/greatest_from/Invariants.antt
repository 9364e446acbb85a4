use Rattle.std.proofs.Common.{ℕ, ◌+◌, ◌<◌, ◌≤◌}
use Rattle.mp_skips.specs.Sums.{number_in}
use Rattle.mp_skips.proofs.needs.greatest_from.Given as goal

abbrev pub invariant-loop-k : goal.invariant-loop-k
invariant-loop-k l = (q : ℕ) → q < l.k → number_in l.numbers (l.place + q) ≤ l.greatest
