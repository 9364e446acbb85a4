use Rattle.std.proofs.Common.{◌≡◌, ◌≤◌, length, take}
use Rattle.std.specs.Prelude.{vec_capacity}
use Rattle.mp_tiles.proofs.compact.fill_with_copies.Given as goal

abbrev pub invariant-loop-k : goal.invariant-loop-k
invariant-loop-k l = record {
  items : l.slots.items ≡ take l.k l.others;
  room : length l.others ≤ vec_capacity l.slots;
  same : vec_capacity l.slots ≡ vec_capacity l.initial.slots;
}
