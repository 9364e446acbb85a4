use Rattle.std.proofs.Common.{◌≡◌, ℕ, ◌+◌, ◌<◌, ℤ}
use Rattle.mp_sums.specs.Sums.{square_sum}
use Rattle.mp_anytime.specs.Narrow.{AreNarrow, wrapped}
use Rattle.mp_anytime.proofs.narrow.sum_of_squares.Given as goal

abbrev pub invariant-loop-k : goal.invariant-loop-k
invariant-loop-k l = (n : ℕ) (x : ℕ → ℤ) → AreNarrow n x l.numbers
    → ((q : ℕ) → q < l.count → (l.row + q < n) × (l.column + q < n))
    → l.sum ≡ wrapped (square_sum l.k x l.row x l.column)
