use Rattle.std.proofs.Common.{◌≡◌, ℕ, ◌+◌, ◌<◌, get_or}
use Rattle.mp_stream.specs.Rows.{moved_row}
use Rattle.mp_stream.proofs.sums.move_close.Given as goal

abbrev pub invariant-loop-i : goal.invariant-loop-i
invariant-loop-i l = (k : ℕ) → k < l.i + 1
    → get_or l.sums k 0 ≡ moved_row (get_or l.fn.sums 0 0) l.before l.enters l.leaves k
