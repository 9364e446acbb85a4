use Rattle.std.proofs.Common.{[], refl}
use Rattle.mp_anytime.proofs.waiting.Waiting.none_covered.Goals as goal

pub loop-window-preserved : goal.loop-window-preserved
loop-window-preserved c = c.add_window.ensures [] refl c.loop-window.invariant
