use Rattle.std.proofs.Common.{◌≡◌, ℕ, ◌<◌, ◌≤◌, length}
use Rattle.mp_skips.specs.Sums.{number_in}
use Rattle.mp_skips.specs.declared.sums.TheConstants.{NO_NEED}
use Rattle.mp_skips.proofs.needs.lower.Given as goal

abbrev pub invariant-loop-g : goal.invariant-loop-g
invariant-loop-g l = record {
  small : (k : ℕ) → k < l.g → number_in l.needs k ≤ NO_NEED;
  same : (k : ℕ) → number_in l.needs k < NO_NEED → number_in l.needs k ≡ number_in l.initial.needs k;
  places : length l.needs ≡ length l.initial.needs;
}
