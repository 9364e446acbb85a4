use Rattle.std.proofs.Common.{◌+◌, ◌-◌, ◌*◌}
use Rattle.mp_multi.proofs.profiles.+slots.Given as goal

abbrev pub decreases-unfound_slots : goal.decreases-unfound_slots
decreases-unfound_slots g l = 4 * l.workers

abbrev pub decreases-unfound_halves : goal.decreases-unfound_halves
decreases-unfound_halves g l = 4 * (l.some + l.others) - 2

abbrev pub decreases-unfound_halves-front : goal.decreases-unfound_halves-front
decreases-unfound_halves-front g l = 4 * l.some + 1

abbrev pub decreases-unfound_halves-back : goal.decreases-unfound_halves-back
decreases-unfound_halves-back g l = 4 * l.others + 1
