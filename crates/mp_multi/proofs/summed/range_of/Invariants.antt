use Rattle.std.proofs.Common.{ℕ, ◌<◌, [], get_or}
use Rattle.mp_sums.specs.Ranges.{AreSamplesWithin}
use Rattle.mp_multi.proofs.summed.range_of.Given as goal

abbrev pub invariant-loop-c : goal.invariant-loop-c
invariant-loop-c l = (q : ℕ) → q < l.c → AreSamplesWithin l.range (get_or l.channels q [])
