-- What holds of the best pairs of successive lengths.
use Rattle.std.specs.Prelude.{◌≡◌, ℕ, ◌+◌, ◌≤◌, Option, Some}
use Rattle.mp_nums.specs.declared.finds.Pair.{Pair}
use Rattle.mp_defs.specs.Series.{Series}
use Rattle.mp_results.specs.Pan.{pan_row}

-- there is a pair, no farther apart than a distance
pub record HasPairWithin (dist : ℕ) (best : Option Pair) : Type 0 where
  pub pair : Pair
  pub is : best ≡ Some pair
  pub near : pair.near.dist.0 ≤ dist

-- where a length has a best pair, the length one below has one that is no farther apart
abbrev pub BestPairsRise : Type 0
BestPairsRise = (length : ℕ) (a : Series) (longer : Pair) → (pan_row a (length + 1)).best ≡ Some longer
    → HasPairWithin longer.near.dist.0 (pan_row a length).best
