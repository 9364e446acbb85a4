use Rattle.std.proofs.Common.{◌≡◌, ◌+◌, length}
use Rattle.mp_defs.specs.Band.{first_kept}
use Rattle.mp_stores.proofs.KeptLemmas.{AreSlots}
use Rattle.mp_stores.proofs.live_windows.live_slots.Given as goal

abbrev pub invariant-loop-i : goal.invariant-loop-i
invariant-loop-i l = record {
  count : first_kept l.kept.keep l.kept.count + length l.slots.items ≡ l.i;
  slots : AreSlots l.column l.kept l.slots.items;
}
