use Rattle.std.proofs.Common.{◌≡◌, ℕ, ◌+◌, ◌*◌, ◌<◌, ◌≤◌, length, get_or, pos}
use Rattle.mp_defs.specs.Distance.{squared_difference}
use Rattle.mp_defs.specs.Series.{Series}
use Rattle.mp_sums.specs.declared.ranges.Range.{Range}
use Rattle.mp_sums.specs.Ranges.{AreWithin}
use Rattle.mp_sums.specs.Sums.{numbers_of}
use Rattle.mp_anytime.specs.Kept.{IsSumAt}
use Rattle.mp_anytime.proofs.extending.near_sum.Given as goal

abbrev pub invariant-loop-k : goal.invariant-loop-k
invariant-loop-k l = record {
  small : (range : Range) → AreWithin range l.first → AreWithin range l.second
      → l.sum ≤ l.k * squared_difference range.greatest range.least;
  sum : (a : Series) (i j : ℕ)
      → ((q : ℕ) → q < length l.first → get_or l.first q (pos 0) ≡ numbers_of a (i + q))
      → ((q : ℕ) → q < length l.first → get_or l.second q (pos 0) ≡ numbers_of a (j + q)) → IsSumAt l.k a i j l.sum;
}
