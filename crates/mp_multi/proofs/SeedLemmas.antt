-- Pairs that are offered ahead of all others.
use Rattle.std.proofs.Common.{◌≡◌, ℕ, ◌+◌, ◌-◌, ◌<◌, ◌≤◌, Bool, arith}
use Rattle.std.specs.Prelude.{Option, ◌||◌}
use Rattle.std.proofs.lemmas.Bool.Decides.{nat_tests}
use Rattle.mp_nums.specs.declared.nearest.Near.{Near}
use Rattle.mp_nums.specs.Listed.{Listed}
use Rattle.mp_scans.specs.Offering.{in_block}
use Rattle.mp_multi.specs.Blocks.{AreScannedBy}
use Rattle.mp_multi.specs.Skips.{IsAheadOf}
use Rattle.mp_multi.specs.Tiling.{window_count}
use Rattle.mp_multi.specs.declared.plans.MultiPlan.{MultiPlan}
use Rattle.mp_multi.proofs.PairScans.{scan_then}

-- pairs among all of them are offered
pub ahead_of : (plan : MultiPlan) (p q : ℕ → ℕ → Bool) (old new : Listed (Option Near))
    → AreScannedBy plan p old new
    → ((i j : ℕ) → i < window_count plan.channels.m plan.channels.list.now
    → j < window_count plan.channels.m plan.channels.list.now → (p i j || q i j) ≡ q i j)
    → IsAheadOf plan q old new
ahead_of plan p q old new s among = record {
  all = λ after t. scan_then plan.channels.m plan.channels.k plan.channels.list.now p q q old new after s t among;
}

-- nothing is offered
pub ahead_none : (plan : MultiPlan) (q : ℕ → ℕ → Bool) (into : Listed (Option Near)) → IsAheadOf plan q into into
ahead_none plan q into = record { all = λ after s. s }

-- some pairs, and then others
pub ahead_then : (plan : MultiPlan) (q : ℕ → ℕ → Bool) (old mid new : Listed (Option Near))
    → IsAheadOf plan q old mid → IsAheadOf plan q mid new → IsAheadOf plan q old new
ahead_then plan q old mid new h k = record { all = λ after s. h.all after (k.all after s) }

-- some rows on one diagonal are among all pairs that start far enough after one another
pub among_all : (first w k row count i j : ℕ) → first ≤ k → i < w → j < w
    → (in_block k (k + 1) row (row + count) i j || in_block first w 0 w i j) ≡ in_block first w 0 w i j
among_all first w k row count i j le iw jw = grind (arith, nat_tests)
