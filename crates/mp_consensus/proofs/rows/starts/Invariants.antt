use Rattle.std.proofs.Common.{◌≡◌, ℕ, ◌<◌, get_or, length}
use Rattle.std.specs.Prelude.{None}
use Rattle.mp_consensus.specs.Searches.{start_of}
use Rattle.mp_consensus.proofs.rows.starts.Given as goal

abbrev pub invariant-loop-reach : goal.invariant-loop-reach
invariant-loop-reach l = record {
  places : length l.slots.items ≡ l.reach-index;
  each : (k : ℕ) → k < length l.slots.items → get_or l.slots.items k None ≡ start_of l.end (get_or l.reaches k None);
}
