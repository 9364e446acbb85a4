use Rattle.std.proofs.Common.{◌≡◌, length}
use Rattle.mp_multi.proofs.mates.compare.Given as goal

abbrev pub invariant-loop-r : goal.invariant-loop-r
invariant-loop-r g l = record {
  mates : length l.mates ≡ length l.initial.mates;
  least : length l.least ≡ length l.initial.least;
}
