use Rattle.std.proofs.Common.{◌≡◌, ℕ, ◌<◌, length, get_or, true, false}
use Rattle.mp_scans.proofs.marks.mark_all.Given as goal

abbrev pub invariant-loop-k : goal.invariant-loop-k
invariant-loop-k l = record {
  places : length l.marks ≡ length l.initial.marks;
  done : (q : ℕ) → q < l.k → get_or l.marks q false ≡ true;
}
