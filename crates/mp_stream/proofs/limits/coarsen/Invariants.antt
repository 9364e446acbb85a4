use Rattle.std.proofs.Common.{◌≡◌, ℕ, ◌<◌, get_or}
use Rattle.std.specs.Prelude.{None}
use Rattle.mp_stream.specs.Limits.{coarse_limit}
use Rattle.mp_stream.proofs.limits.coarsen.Given as goal

abbrev pub invariant-loop-i : goal.invariant-loop-i
invariant-loop-i l = (k : ℕ) → k < l.i → get_or l.limits k 0 ≡ coarse_limit (get_or l.column k None)
