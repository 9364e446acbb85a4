use Rattle.std.proofs.Common.{◌≡◌, ℕ, ◌*◌, ◌≤◌, List, length, take}
use Rattle.std.specs.Prelude.{filter}
use Rattle.mp_results.specs.Covering.{by_reversal, is_uncovered}
use Rattle.mp_anytime.specs.Waiting.{AreWaiting}
use Rattle.mp_anytime.proofs.waiting.choose_from.Given as goal

abbrev pub invariant-loop-block : goal.invariant-loop-block
invariant-loop-block l = record {
  chosen : (m windows : ℕ) (covered : List ℕ) → AreWaiting m windows covered l.places
      → l.chosen.items ≡ take l.count (filter (is_uncovered m windows covered) (by_reversal (512 * l.block)));
  few : length l.chosen.items ≤ 512 * l.block;
}
