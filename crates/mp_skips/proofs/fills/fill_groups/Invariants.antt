use Rattle.std.proofs.Common.{◌≡◌, ℕ, ◌<◌, ◌≤◌, List, length}
use Rattle.std.specs.Prelude.{ℤ}
use Rattle.mp_nums.specs.declared.samples.Sample.{Sample}
use Rattle.mp_defs.specs.Series.{series_of}
use Rattle.mp_skips.specs.Sums.{number_in, AreFloors, AreGroups}
use Rattle.mp_skips.specs.Slack.{IsSlack}
use Rattle.mp_skips.specs.declared.sums.TheConstants.{MOST_GRAINS}
use Rattle.mp_skips.proofs.fills.fill_groups.Given as goal

abbrev pub invariant-loop-g : goal.invariant-loop-g
invariant-loop-g l = record {
  groups : (low : ℤ) (s grain : ℕ) (samples : List Sample) → IsSlack grain l.slack
      → AreFloors low s grain (series_of samples) l.floors (length l.floors)
      → AreGroups low s grain (series_of samples) l.least l.greatest l.g;
  small : (k : ℕ) → k < l.g → number_in l.greatest k ≤ MOST_GRAINS;
  places : length l.least ≡ length l.initial.least;
  same : length l.greatest ≡ length l.initial.greatest;
}
