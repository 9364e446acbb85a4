use Rattle.std.proofs.Common.{◌≡◌, replicate, take}
use Rattle.std.specs.Prelude.{None}
use Rattle.mp_pan.proofs.scans.clear.Given as goal

abbrev pub invariant-loop-slot : goal.invariant-loop-slot
invariant-loop-slot l = take l.slot-index l.slots ≡ replicate l.slot-index None
