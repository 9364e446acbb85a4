use Rattle.std.proofs.Common.{◌≡◌, ◌+◌, ◌≤◌, length, take}
use Rattle.mp_partial.specs.Values.{merged_column}
use Rattle.mp_tiles.proofs.found.Found.put_nearer.Given as goal

abbrev pub invariant-loop-k : goal.invariant-loop-k
invariant-loop-k l = record {
  nearer : l.column.items ≡ take l.k (merged_column l.left.slots l.right.slots);
  room : length l.left.slots ≤ l.column.spare + l.k;
}
