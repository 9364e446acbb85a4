use Rattle.std.proofs.Common.{◌≡◌, length}
use Rattle.mp_anytime.specs.Told.{AreLower, AreTold, slots_by}
use Rattle.mp_anytime.proofs.SlotLemmas.{AreMergedBelow}
use Rattle.mp_anytime.proofs.bounds.take_others.Given as goal

abbrev pub invariant-loop-place : goal.invariant-loop-place
invariant-loop-place l = record {
  merged : AreMergedBelow l.place (slots_by l.initial.windows l.initial.starts) (slots_by l.others l.other_starts)
      (slots_by l.windows l.starts);
  told : AreTold l.windows;
  lower : AreLower l.initial.windows l.windows;
  starts : length l.starts ≡ length l.initial.starts;
}
