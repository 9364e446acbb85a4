use Rattle.std.proofs.Common.{◌≡◌, ◌+◌, ◌≤◌, replicate}
use Rattle.std.specs.Prelude.{None}
use Rattle.mp_tiles.proofs.sides.put_none.Given as goal

abbrev pub invariant-loop : goal.invariant-loop
invariant-loop l = record {
  items : l.column.items ≡ replicate l.counter None;
  room : l.places ≤ l.column.spare + l.counter;
}
