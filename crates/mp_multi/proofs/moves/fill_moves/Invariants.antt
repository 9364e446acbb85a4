use Rattle.std.proofs.Common.{◌≡◌, ℕ, ◌<◌, length, get_or}
use Rattle.mp_multi.specs.Moving.{IsMoved, channel_numbers}
use Rattle.mp_multi.specs.declared.moves.Moves.{Moves}
use Rattle.mp_multi.proofs.moves.fill_moves.Given as goal

abbrev pub invariant-loop-n : goal.invariant-loop-n
invariant-loop-n l = record {
  places : length l.moves ≡ length l.fn.moves;
  done : (q : ℕ) (past : Moves) → q < l.n → IsMoved l.plan.channels.m
      (channel_numbers l.plan.shift l.plan.channels.list.now q) l.row l.column (get_or l.moves q past);
}
