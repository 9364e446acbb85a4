use Rattle.std.proofs.Common.{◌≡◌, length}
use Rattle.mp_anytime.proofs.SlotLemmas.{AreMergedBelow}
use Rattle.mp_anytime.proofs.residue_found.offer_earlier.Given as goal

abbrev pub invariant-loop-place : goal.invariant-loop-place
invariant-loop-place l = record {
  merged : AreMergedBelow l.place l.initial.into.left l.side l.into.left;
  right : l.into.right ≡ l.initial.into.right;
  spare : l.into.spare ≡ l.initial.into.spare;
  places : length l.into.all ≡ length l.initial.into.all;
}
