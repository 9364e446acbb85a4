use Rattle.std.proofs.Common.{◌+◌, ◌-◌, ◌*◌, length}
use Rattle.mp_workers.proofs.sharing.+sharing.Given as goal

abbrev pub decreases-share_team : goal.decreases-share_team
decreases-share_team g l = 4 * length l.team.now

abbrev pub decreases-share_halves : goal.decreases-share_halves
decreases-share_halves g l = 4 * (length l.low.now + length l.high.now) - 2

abbrev pub decreases-share_halves-front : goal.decreases-share_halves-front
decreases-share_halves-front g l = 4 * length l.low.now + 1

abbrev pub decreases-share_halves-back : goal.decreases-share_halves-back
decreases-share_halves-back g l = 4 * length l.high.now + 1
