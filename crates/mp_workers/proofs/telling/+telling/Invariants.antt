use Rattle.std.proofs.Common.{◌+◌, ◌-◌, ◌*◌, length}
use Rattle.mp_workers.proofs.telling.+telling.Given as goal

abbrev pub decreases-tell_some : goal.decreases-tell_some
decreases-tell_some g l = 4 * length l.team.now

abbrev pub decreases-tell_halves : goal.decreases-tell_halves
decreases-tell_halves g l = 4 * (length l.low.now + length l.high.now) - 2

abbrev pub decreases-tell_halves-front : goal.decreases-tell_halves-front
decreases-tell_halves-front g l = 4 * length l.low.now + 1

abbrev pub decreases-tell_halves-back : goal.decreases-tell_halves-back
decreases-tell_halves-back g l = 4 * length l.high.now + 1
