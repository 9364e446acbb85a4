use Rattle.std.proofs.Common.{◌≡◌, ℕ, ◌<◌, length, get_or}
use Rattle.std.specs.Prelude.{None}
use Rattle.mp_stream.specs.Limits.{limit_by}
use Rattle.mp_stream.proofs.limits.limits_of.Given as goal

abbrev pub invariant-loop-slot : goal.invariant-loop-slot
invariant-loop-slot l = record {
  places : length l.limits.items ≡ l.slot-index;
  each : (k : ℕ) → k < l.slot-index → get_or l.limits.items k 0 ≡ limit_by l.is_narrow (get_or l.column k None);
}
