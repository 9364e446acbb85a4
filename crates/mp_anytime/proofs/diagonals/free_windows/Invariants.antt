use Rattle.std.proofs.Common.{◌≡◌, ℕ, ◌<◌, length, get_or, false}
use Rattle.mp_defs.specs.Series.{series_of}
use Rattle.mp_defs.specs.Window.{is_free}
use Rattle.mp_anytime.proofs.diagonals.free_windows.Given as goal

abbrev pub invariant-loop-i : goal.invariant-loop-i
invariant-loop-i l = record {
  places : length l.free.items ≡ l.i;
  frees : (k : ℕ) → k < l.i → get_or l.free.items k false ≡ is_free l.m (series_of l.samples.items) k;
}
