use Rattle.std.proofs.Common.{◌≡◌, length}
use Rattle.mp_anytime.proofs.SlotLemmas.{AreMergedBelow}
use Rattle.mp_anytime.proofs.residue_found.offer_later.Given as goal

abbrev pub invariant-loop-place : goal.invariant-loop-place
invariant-loop-place l = record {
  merged : AreMergedBelow l.place l.initial.into.right l.side l.into.right;
  left : l.into.left ≡ l.initial.into.left;
  spare : l.into.spare ≡ l.initial.into.spare;
  places : length l.into.all ≡ length l.initial.into.all;
}
