use Rattle.std.proofs.Common.{ℕ, ◌<◌}
use Rattle.mp_defs.specs.Series.{series_of}
use Rattle.mp_sums.specs.declared.ranges.Range.{Range}
use Rattle.mp_sums.specs.Sums.{numbers_of}
use Rattle.mp_sums.specs.Ranges.{AreSamplesWithin, IsInRange, Reaches}
use Rattle.mp_sums.proofs.ranges.Range.with_samples.Given as goal

abbrev pub invariant-loop-sample : goal.invariant-loop-sample
invariant-loop-sample l = record {
  samples : (k : ℕ) → k < l.sample-index → IsInRange l.range (numbers_of (series_of l.samples) k);
  wider : Reaches l.range l.fn.self;
  least : (range : Range) → Reaches range l.fn.self → AreSamplesWithin range l.samples → Reaches range l.range;
}
