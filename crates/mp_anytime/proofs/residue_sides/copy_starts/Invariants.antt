use Rattle.std.proofs.Common.{◌≡◌, ℕ, ◌<◌, length, get_or}
use Rattle.mp_anytime.proofs.residue_sides.copy_starts.Given as goal

abbrev pub invariant-loop-place : goal.invariant-loop-place
invariant-loop-place l = record {
  places : length l.starts ≡ length l.initial.starts;
  done : (q : ℕ) → q < l.place → get_or l.starts q 0 ≡ get_or l.others q 0;
}
