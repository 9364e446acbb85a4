use Rattle.std.proofs.Common.{◌≡◌, ℕ, ◌+◌, ◌*◌, ◌<◌, ◌≤◌, length}
use Rattle.mp_skips.specs.Sums.{number_in}
use Rattle.mp_skips.specs.declared.sums.TheConstants.{NO_NEED}
use Rattle.mp_multi.specs.Skips.{IsNeedOfAll}
use Rattle.mp_multi.proofs.bounds.Level.fill_group_needs.Given as goal

abbrev pub invariant-loop-g : goal.invariant-loop-g
invariant-loop-g l = record {
  places : length l.needs ≡ length l.fn.needs;
  each : (g : ℕ) → g < l.g → IsNeedOfAll l.self.plan l.self.units l.into.items l.first (8 * (l.group + g))
      (8 + 8 * l.self.units.eights) (number_in l.needs g);
  small : (g : ℕ) → g < l.g → number_in l.needs g ≤ NO_NEED;
}
