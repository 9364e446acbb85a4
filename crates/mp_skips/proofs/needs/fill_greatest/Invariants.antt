use Rattle.std.proofs.Common.{◌≡◌, length}
use Rattle.mp_skips.specs.Needs.{AreGreatest}
use Rattle.mp_skips.proofs.needs.fill_greatest.Given as goal

abbrev pub invariant-loop-t : goal.invariant-loop-t
invariant-loop-t l = record {
  greatest : AreGreatest l.numbers l.more l.t l.needs;
  places : length l.needs ≡ length l.initial.needs;
}
