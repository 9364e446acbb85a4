use Rattle.std.proofs.Common.{ℕ, ◌-◌, ◌^◌, ◌<◌, ◌≤◌, get_or}
use Rattle.mp_anytime.proofs.offers.is_one_below.Given as goal

abbrev pub invariant-loop-k : goal.invariant-loop-k
invariant-loop-k l =
    l.below < 2 ^ 63 → (q : ℕ) → q < l.k
    → (get_or l.limits (l.last - get_or l.listed q 0) 0 ≤ get_or l.sums (get_or l.listed q 0) 0)
    × (l.best ≤ get_or l.sums (get_or l.listed q 0) 0)
