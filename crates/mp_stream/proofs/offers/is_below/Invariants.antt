use Rattle.std.proofs.Common.{ℕ, ◌^◌, ◌<◌, ◌≤◌, get_or}
use Rattle.mp_stream.specs.Limits.{coarse}
use Rattle.mp_stream.proofs.offers.is_below.Given as goal

abbrev pub invariant-loop-i : goal.invariant-loop-i
invariant-loop-i l =
    l.below < 2 ^ 63 → (k : ℕ) → k < l.i → l.first ≤ k
    → (get_or l.limits k 0 ≤ coarse (get_or l.sums k 0)) × (l.best ≤ coarse (get_or l.sums k 0))
