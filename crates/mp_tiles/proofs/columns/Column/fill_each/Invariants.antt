use Rattle.std.proofs.Common.{◌≡◌, ℕ, ◌+◌, ◌<◌, length, get_or, true, false, w32, FitsSigned}
use Rattle.std.specs.Prelude.{None}
use Rattle.mp_sums.specs.Residues.{item}
use Rattle.mp_scans.specs.Firsts.{first_at}
use Rattle.mp_scans.specs.Offering.{TellsNothing}
use Rattle.mp_scans.specs.Slots.{Covers}
use Rattle.mp_tiles.proofs.columns.Column.fill_each.Given as goal

abbrev pub invariant-loop-k : goal.invariant-loop-k
invariant-loop-k l = record {
  places : length l.bounds ≡ length l.initial.bounds;
  done : (q : ℕ) → q < l.k → get_or l.free q false ≡ true
      → TellsNothing l.rounding.m l.rounding.shift (first_at l.firsts q)
      (Covers (get_or l.self.slots (l.place + q) None)) (item l.bounds q);
  fit : (q : ℕ) → q < l.k → FitsSigned w32 (item l.bounds q);
}
