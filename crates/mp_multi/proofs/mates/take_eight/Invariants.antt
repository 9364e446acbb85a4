use Rattle.std.proofs.Common.{◌≡◌, length}
use Rattle.mp_multi.proofs.mates.take_eight.Given as goal

abbrev pub invariant-loop-l : goal.invariant-loop-l
invariant-loop-l l = record {
  mates : length l.mates ≡ length l.initial.mates;
  least : length l.least ≡ length l.initial.least;
}
