use Rattle.std.proofs.Common.{◌≡◌, ℕ, ◌+◌, ◌*◌, ◌<◌, ◌≤◌, length, take, get_or, Bool, false}
use Rattle.std.specs.Prelude.{filter}
use Rattle.mp_results.specs.Reversal.{reversal}
use Rattle.mp_results.specs.Covering.{by_reversal}
use Rattle.mp_anytime.proofs.waiting.choose_in.Given as goal

abbrev pub invariant-loop-k : goal.invariant-loop-k
invariant-loop-k l = record {
  chosen : (is_waiting : ℕ → Bool)
      → ((place : ℕ) → place < length l.places → get_or l.places place false ≡ is_waiting (reversal place))
      → l.initial.chosen.items ≡ take l.count (filter is_waiting (by_reversal (512 * l.block)))
      → l.chosen.items ≡ take l.count (filter is_waiting (by_reversal (512 * l.block + l.k)));
  few : length l.chosen.items ≤ length l.initial.chosen.items + l.k;
}
