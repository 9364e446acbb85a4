use Rattle.std.proofs.Common.{[]}
use Rattle.mp_anytime.specs.Waiting.{AreWaiting}
use Rattle.mp_anytime.proofs.waiting.Waiting.none_covered.Given as goal

abbrev pub invariant-loop-window : goal.invariant-loop-window
invariant-loop-window l = AreWaiting l.m l.window [] l.waiting
