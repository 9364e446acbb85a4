use Rattle.std.proofs.Common.{◌+◌, ◌-◌, ◌*◌, length}
use Rattle.mp_consensus.proofs.searches.+teams.Given as goal

abbrev pub decreases-run_team : goal.decreases-run_team
decreases-run_team g l = 4 * length l.team.now

abbrev pub decreases-run_halves : goal.decreases-run_halves
decreases-run_halves g l = 4 * (length l.low.now + length l.high.now) - 2

abbrev pub decreases-run_halves-front : goal.decreases-run_halves-front
decreases-run_halves-front g l = 4 * length l.low.now + 1

abbrev pub decreases-run_halves-back : goal.decreases-run_halves-back
decreases-run_halves-back g l = 4 * length l.high.now + 1
