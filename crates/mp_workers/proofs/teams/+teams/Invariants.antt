use Rattle.std.proofs.Common.{◌+◌, ◌-◌, ◌*◌, length}
use Rattle.mp_workers.proofs.teams.+teams.Given as goal

abbrev pub decreases-run_some : goal.decreases-run_some
decreases-run_some g l = 4 * length l.team.now

abbrev pub decreases-run_both : goal.decreases-run_both
decreases-run_both g l = 4 * (length l.low.now + length l.high.now) - 1

abbrev pub decreases-run_halves : goal.decreases-run_halves
decreases-run_halves g l = 4 * (length l.low.now + length l.high.now) - 2

abbrev pub decreases-run_halves-front : goal.decreases-run_halves-front
decreases-run_halves-front g l = 4 * length l.low.now + 1

abbrev pub decreases-run_halves-back : goal.decreases-run_halves-back
decreases-run_halves-back g l = 4 * length l.high.now + 1
