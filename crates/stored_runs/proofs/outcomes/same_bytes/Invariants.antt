use Rattle.std.proofs.Common.{length, ◌-◌, ◌≡◌, ◌≤◌, take}
use Rattle.stored_runs.proofs.outcomes.same_bytes.Given as goal

-- the bytes so far are the same
abbrev pub invariant-loop-count : goal.invariant-loop-count
invariant-loop-count l = (l.count ≤ length l.xs) × (l.count ≤ length l.ys) × (take l.count l.xs ≡ take l.count l.ys)

abbrev pub decreases-loop-count : goal.decreases-loop-count
decreases-loop-count l = length l.xs - l.count
