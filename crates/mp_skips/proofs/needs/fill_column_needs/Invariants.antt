use Rattle.std.proofs.Common.{◌≡◌, length}
use Rattle.mp_skips.specs.Needs.{AreColumnNeeds}
use Rattle.mp_skips.proofs.needs.fill_column_needs.Given as goal

abbrev pub invariant-loop-k : goal.invariant-loop-k
invariant-loop-k g l = record {
  needs : AreColumnNeeds l.coarse (g.O.Offers.keeps_column l.into) l.first l.column l.k l.needs;
  places : length l.needs ≡ length l.initial.needs;
}
