use Rattle.std.proofs.Common.{◌≡◌, length}
use Rattle.mp_skips.proofs.mates.compare.Given as goal

abbrev pub invariant-loop-k : goal.invariant-loop-k
invariant-loop-k l = record {
  sums : length l.sums ≡ 8;
  mates : length l.mates ≡ length l.initial.mates;
  least : length l.least ≡ length l.initial.least;
}
