use Rattle.std.proofs.Common.{◌≡◌, ◌-◌, ◌^◌, take}
use Rattle.std.specs.Prelude.{min}
use Rattle.mp_stores.specs.Stores.{reads_in}
use Rattle.mp_stores.proofs.groups.reads_of.Given as goal

abbrev pub invariant-loop-channel : goal.invariant-loop-channel
invariant-loop-channel l = l.reads ≡ min (reads_in (take l.channel-index l.channels)) (2 ^ 128 - 1)
