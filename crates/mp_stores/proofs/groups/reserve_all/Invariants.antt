use Rattle.std.proofs.Common.{◌≤◌}
use Rattle.std.specs.List.{AllWithin}
use Rattle.mp_stores.specs.Stores.{RoomWasMade}
use Rattle.mp_stores.proofs.groups.reserve_all.Given as goal

abbrev pub invariant-loop-k : goal.invariant-loop-k
invariant-loop-k l = record {
  room : AllWithin (λ channel. l.more ≤ channel.spare) l.channels 0 l.k;
  same : RoomWasMade l.initial.channels l.channels;
}
