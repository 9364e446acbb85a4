use Rattle.std.proofs.Common.{◌≡◌, length}
use Rattle.call_tests.proofs.cores.step_each.Given as goal

abbrev pub invariant-loop-step : goal.invariant-loop-step
invariant-loop-step g l =
    (l.core.size ≡ l.initial.core.size)
    × (length l.core.state.pieces ≡ length l.initial.core.state.pieces)
    × (length l.core.state.workers ≡ 2)
