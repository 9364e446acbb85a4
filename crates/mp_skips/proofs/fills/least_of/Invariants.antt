use Rattle.std.proofs.Common.{ℕ, ◌+◌, ◌≤◌, ◌<◌}
use Rattle.mp_skips.specs.Sums.{number_in}
use Rattle.mp_skips.proofs.fills.least_of.Given as goal

abbrev pub invariant-loop-u : goal.invariant-loop-u
invariant-loop-u l = (k : ℕ) → k < l.u → l.least ≤ number_in l.numbers (l.place + k)
