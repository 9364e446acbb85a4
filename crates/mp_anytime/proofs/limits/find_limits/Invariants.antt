use Rattle.std.proofs.Common.{◌≡◌, ℕ, ◌<◌, get_or, length}
use Rattle.std.specs.Prelude.{None}
use Rattle.mp_anytime.specs.Limits.{limit_of}
use Rattle.mp_anytime.proofs.limits.find_limits.Given as goal

abbrev pub invariant-loop-place : goal.invariant-loop-place
invariant-loop-place l = record {
  places : length l.limits ≡ length l.fn.limits;
  done : (k : ℕ) → k < l.place → get_or l.limits k 0 ≡ limit_of (get_or l.column k None);
}
