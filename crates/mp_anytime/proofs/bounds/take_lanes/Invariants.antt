use Rattle.std.proofs.Common.{◌≡◌, length}
use Rattle.mp_anytime.specs.Told.{AreLower, AreTold, lanes_by, lanes_taken, slots_by}
use Rattle.mp_anytime.proofs.bounds.take_lanes.Given as goal

abbrev pub invariant-loop-k : goal.invariant-loop-k
invariant-loop-k l = record {
  slots : slots_by l.windows l.starts
      ≡ lanes_taken (slots_by l.initial.windows l.initial.starts) l.place (lanes_by l.residues l.first) l.k;
  told : AreTold l.windows;
  lower : AreLower l.initial.windows l.windows;
  starts : length l.starts ≡ length l.initial.starts;
}
