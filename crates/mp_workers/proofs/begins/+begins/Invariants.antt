use Rattle.std.proofs.Common.{◌+◌, ◌-◌, ◌*◌, length}
use Rattle.mp_workers.proofs.begins.+begins.Given as goal

abbrev pub decreases-begin_some : goal.decreases-begin_some
decreases-begin_some g l = 4 * length l.parts.now

abbrev pub decreases-begin_both : goal.decreases-begin_both
decreases-begin_both g l = 4 * (length l.low.now + length l.high.now) - 2

abbrev pub decreases-begin_both-front : goal.decreases-begin_both-front
decreases-begin_both-front g l = 4 * length l.low.now + 1

abbrev pub decreases-begin_both-back : goal.decreases-begin_both-back
decreases-begin_both-back g l = 4 * length l.high.now + 1
