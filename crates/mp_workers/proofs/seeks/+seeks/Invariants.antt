use Rattle.std.proofs.Common.{◌+◌, ◌-◌, ◌*◌}
use Rattle.mp_workers.proofs.seeks.+seeks.Given as goal

abbrev pub decreases-find_some : goal.decreases-find_some
decreases-find_some g l = 4 * l.count

abbrev pub decreases-find_both : goal.decreases-find_both
decreases-find_both g l = 4 * (l.count + l.others) - 2

abbrev pub decreases-find_both-front : goal.decreases-find_both-front
decreases-find_both-front g l = 4 * l.count + 1

abbrev pub decreases-find_both-back : goal.decreases-find_both-back
decreases-find_both-back g l = 4 * l.others + 1
