use Rattle.std.proofs.Common.{ℕ, ◌+◌, ◌*◌, ◌<◌}
use Rattle.std.specs.Prelude.{None, slice_index_or}
use Rattle.mp_scans.specs.Slots.{Covers}
use Rattle.mp_pan.proofs.places.widest.Given as goal

abbrev pub invariant-loop-k : goal.invariant-loop-k
invariant-loop-k l = (k index dist : ℕ) → k < l.k → Covers l.widest index dist
    → Covers (slice_index_or l.slots (4 * l.window + k) None) index dist
