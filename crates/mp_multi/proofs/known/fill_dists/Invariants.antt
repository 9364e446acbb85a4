use Rattle.std.proofs.Common.{◌≡◌, ◌<◌, length}
use Rattle.mp_skips.specs.declared.sums.TheConstants.{MOST_SUM}
use Rattle.mp_multi.specs.Skips.{AreBelow, AreDistancesIn}
use Rattle.mp_multi.proofs.known.fill_dists.Given as goal

abbrev pub invariant-loop-c : goal.invariant-loop-c
invariant-loop-c g l = record {
  places : length l.dists ≡ g.row.D;
  filled : AreDistancesIn l.level.plan l.row l.column l.count l.c l.dists;
  small : l.level.plan.channels.m < 2048 → AreBelow MOST_SUM l.c g.row.N l.dists;
}
