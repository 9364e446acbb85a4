use Rattle.std.proofs.Common.{ℕ, ◌+◌, ◌≤◌, ◌<◌}
use Rattle.mp_skips.specs.Sums.{number_in}
use Rattle.mp_skips.specs.declared.sums.TheConstants.{MOST_GRAINS}
use Rattle.mp_skips.proofs.fills.greatest_of.Given as goal

abbrev pub invariant-loop-u : goal.invariant-loop-u
invariant-loop-u l = record {
  greatest : (k : ℕ) → k < l.u → number_in l.numbers (l.place + k) ≤ l.greatest;
  small : l.greatest < MOST_GRAINS;
}
