use Rattle.std.proofs.Common.{◌≡◌, ℕ, ◌<◌, length}
use Rattle.mp_defs.specs.Series.{series_of}
use Rattle.mp_skips.specs.Totals.{level}
use Rattle.mp_skips.specs.Bounds.{IsFloor}
use Rattle.mp_skips.specs.Sums.{number_in}
use Rattle.mp_skips.specs.declared.sums.TheConstants.{MOST_GRAINS}
use Rattle.mp_skips.proofs.fills.fill_levels.Given as goal

abbrev pub invariant-loop-p : goal.invariant-loop-p
invariant-loop-p l = record {
  levels : (k : ℕ) → k < l.p → IsFloor l.step (level l.low (series_of l.samples) k) (number_in l.levels k);
  small : (k : ℕ) → k < l.p → number_in l.levels k < MOST_GRAINS;
  places : length l.levels ≡ length l.initial.levels;
}
