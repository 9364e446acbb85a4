use Rattle.std.proofs.Common.{◌≡◌, ℕ, ◌-◌, ◌<◌, ◌≤◌, length, get_or}
use Rattle.mp_anytime.specs.Narrow.{IsTurn}
use Rattle.mp_anytime.proofs.narrow.fill_turns.Given as goal

abbrev pub invariant-loop-k : goal.invariant-loop-k
invariant-loop-k l = record {
  places : length l.turns ≡ length l.initial.turns;
  done : (q : ℕ) → length l.marks - l.k ≤ q → q < length l.marks → IsTurn l.marks q (get_or l.turns q 0);
  next : 1 ≤ l.k → IsTurn l.marks (length l.marks - l.k) l.turn;
}
