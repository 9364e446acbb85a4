use Rattle.std.proofs.Common.{◌≡◌, ℕ, ◌+◌, ◌-◌, ◌<◌, length, get_or, false}
use Rattle.mp_defs.specs.Series.{series_of}
use Rattle.mp_defs.specs.Window.{is_free}
use Rattle.mp_scans.specs.Free.{IsClear}
use Rattle.mp_scans.proofs.marks.mark_each.Given as goal

abbrev pub invariant-loop-k : goal.invariant-loop-k
invariant-loop-k l = record {
  clear : IsClear (series_of l.samples) l.start l.clear (l.start + l.m - 1 + l.k);
  places : length l.marks ≡ length l.initial.marks;
  done : (q : ℕ) → q < l.k → get_or l.marks q false ≡ is_free l.m (series_of l.samples) (l.start + q);
}
