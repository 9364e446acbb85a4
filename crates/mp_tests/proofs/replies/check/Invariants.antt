use Rattle.std.proofs.Common.{◌≤◌}
use Rattle.mp_tests.proofs.replies.check.Given as goal

-- each turn so far was one line at most
abbrev pub invariant-loop-turn : goal.invariant-loop-turn
invariant-loop-turn g l = l.session.lines ≤ l.turn-index
