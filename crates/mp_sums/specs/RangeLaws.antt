-- Why the law of ranges holds.
use Rattle.std.proofs.Common.{ℕ, ◌+◌, ◌*◌, ◌^◌, ◌<◌, ◌≤◌, arith, mul-le-mul}
use Rattle.std.specs.Prelude.{ℤ, ◌-ℤ◌, ◌≤ℤ◌, unsigned_abs}
use Rattle.std.proofs.lemmas.Int.{ints}
use Rattle.std.proofs.lemmas.Nat.{mul-le}
use Rattle.mp_defs.specs.Distance.{squared_difference}
use Rattle.mp_sums.specs.declared.ranges.Range.{Range}
use Rattle.mp_sums.specs.Sums.{square_sum}
use Rattle.mp_sums.specs.Ranges.{IsInRange, SumsFit}
use Rattle.mp_sums.specs.Laws.{RangesBoundSums}
use Rattle.mp_sums.specs.SumLaws.{sum_bounded}

difference_between : (low high x y : ℤ) → low ≤ℤ x → x ≤ℤ high → low ≤ℤ y → y ≤ℤ high
    → unsigned_abs (x -ℤ y) ≤ unsigned_abs (high -ℤ low)
difference_between low high x y a b c d = omega (arith, ints)

square_between_ends : (low high x y : ℤ) → low ≤ℤ x → x ≤ℤ high → low ≤ℤ y → y ≤ℤ high
    → squared_difference x y ≤ squared_difference high low
square_between_ends low high x y a b c d = let difference =
    difference_between low high x y a b c d in mul-le-mul difference difference

pub squares_in_range : (range : Range) (x y : ℤ) → IsInRange range x → IsInRange range y
    → squared_difference x y ≤ squared_difference range.greatest range.least
squares_in_range range x y h k = square_between_ends range.least range.greatest x y h.0 h.1 k.0 k.1

pub sums_in_range : (n m bits : ℕ) (range : Range) (x : ℕ → ℤ) (i : ℕ) (y : ℕ → ℤ) (j : ℕ) → n ≤ m
    → SumsFit m bits range → ((k : ℕ) → k < n → IsInRange range (x (i + k)))
    → ((k : ℕ) → k < n → IsInRange range (y (j + k))) → square_sum n x i y j < 2 ^ bits
sums_in_range n m bits range x i y j le fits h g =
    let bound : ℕ = squared_difference range.greatest range.least in
    let each : square_sum n x i y j ≤ n * bound =
    sum_bounded bound n x i y j (λ k lt. squares_in_range range (x (i + k)) (y (j + k)) (h k lt) (g k lt)) in
    let more : n * bound ≤ m * bound = mul-le n bound m bound le (omega arith) in
    omega (arith, each, more, fits)

pub ranges_bound_sums : RangesBoundSums
ranges_bound_sums = record { squares = squares_in_range; sums = sums_in_range }
