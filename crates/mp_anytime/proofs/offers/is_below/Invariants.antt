use Rattle.std.proofs.Common.{ℕ, ◌-◌, ◌^◌, ◌<◌, ◌≤◌, get_or}
use Rattle.mp_anytime.proofs.offers.is_below.Given as goal

abbrev pub invariant-loop-diagonal : goal.invariant-loop-diagonal
invariant-loop-diagonal l =
    l.below < 2 ^ 63 → (d : ℕ) → d < l.diagonal → l.first ≤ d
    → (get_or l.limits (l.last - d) 0 ≤ get_or l.sums d 0) × (l.best ≤ get_or l.sums d 0)
