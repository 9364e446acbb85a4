use Rattle.std.proofs.Common.{◌≡◌, ℕ, ◌<◌, ◌≤◌, get_or, length}
use Rattle.mp_anytime.specs.Sums.{IsMoved, square_behind}
use Rattle.mp_anytime.proofs.moving.move_each.Given as goal

abbrev pub invariant-loop-diagonal : goal.invariant-loop-diagonal
invariant-loop-diagonal l = record {
  places : length l.sums ≡ length l.fn.sums;
  done : (d : ℕ) → d < l.diagonal → IsMoved (square_behind l.enters d) (square_behind l.leaves d)
      (get_or l.fn.sums d 0) (get_or l.sums d 0);
  rest : (d : ℕ) → l.diagonal ≤ d → get_or l.sums d 0 ≡ get_or l.fn.sums d 0;
}
