use Rattle.std.proofs.Common.{◌≡◌, ℕ, ◌<◌, get_or}
use Rattle.std.specs.Prelude.{None}
use Rattle.mp_consensus.proofs.rows.is_any_left.Given as goal

abbrev pub invariant-loop-reach : goal.invariant-loop-reach
invariant-loop-reach l = (k : ℕ) → k < l.reach-index → get_or l.reaches k None ≡ None
