use Rattle.std.proofs.Common.{ℕ, ◌<◌, get_or, pos}
use Rattle.mp_sums.specs.declared.ranges.Range.{Range}
use Rattle.mp_sums.specs.Ranges.{AreWithin, IsInRange, Reaches}
use Rattle.mp_sums.proofs.ranges.Range.with_numbers.Given as goal

abbrev pub invariant-loop-number : goal.invariant-loop-number
invariant-loop-number l = record {
  numbers : (k : ℕ) → k < l.number-index → IsInRange l.range (get_or l.numbers k (pos 0));
  wider : Reaches l.range l.fn.self;
  least : (range : Range) → Reaches range l.fn.self → AreWithin range l.numbers → Reaches range l.range;
}
