use Rattle.std.proofs.Common.{◌≡◌, ℕ, ◌+◌, ◌≤◌, length, get_or}
use Rattle.std.specs.Prelude.{None}
use Rattle.mp_stores.proofs.arcs.grow_to.Given as goal

abbrev pub invariant-loop : goal.invariant-loop
invariant-loop l = record {
  long : length l.board.items ≡ l.counter;
  room : l.count ≤ length l.board.items + l.board.spare;
  same : (i : ℕ) → get_or l.board.items i None ≡ get_or l.initial.board.items i None;
}
