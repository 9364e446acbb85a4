use Rattle.std.proofs.Common.{◌≡◌, ℕ, ◌<◌, get_or}
use Rattle.mp_stream.specs.Moves.{moved_by}
use Rattle.mp_stream.proofs.narrow_sums.move_rest.Given as goal

abbrev pub invariant-loop-i : goal.invariant-loop-i
invariant-loop-i l = (k : ℕ) → k < l.i → get_or l.sums k 0 ≡ moved_by l.moves k
