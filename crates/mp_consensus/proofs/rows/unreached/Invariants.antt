use Rattle.std.proofs.Common.{◌≡◌, ℕ, ◌<◌, get_or, length}
use Rattle.std.specs.Prelude.{Some, None}
use Rattle.mp_consensus.specs.Searches.{as_square}
use Rattle.mp_consensus.proofs.rows.unreached.Given as goal

abbrev pub invariant-loop : goal.invariant-loop
invariant-loop l = record {
  places : length l.reaches.items ≡ l.counter;
  each : (k : ℕ) → k < length l.reaches.items → get_or l.reaches.items k None ≡ Some (as_square 0);
}
