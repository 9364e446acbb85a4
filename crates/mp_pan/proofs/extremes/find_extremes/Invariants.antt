use Rattle.std.proofs.Common.{◌≡◌, ◌-◌}
use Rattle.mp_pan.proofs.Entries.{extremes_from, slots_of}
use Rattle.mp_pan.proofs.extremes.find_extremes.Given as goal

abbrev pub invariant-loop-i : goal.invariant-loop-i
invariant-loop-i l = l.found ≡ extremes_from (slots_of l.k l.slots) l.i (l.windows - l.i)
