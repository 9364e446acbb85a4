use Rattle.std.proofs.Common.{◌≡◌, ◌+◌, ◌≤◌, length, take}
use Rattle.mp_tiles.proofs.columns.Column.put.Given as goal

abbrev pub invariant-loop-k : goal.invariant-loop-k
invariant-loop-k l = record {
  items : l.slots.items ≡ take l.k l.self.slots;
  room : length l.self.slots ≤ l.slots.spare + l.k;
}
