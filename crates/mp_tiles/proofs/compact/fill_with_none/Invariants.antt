use Rattle.std.proofs.Common.{◌≡◌, ◌≤◌, replicate}
use Rattle.std.specs.Prelude.{None, vec_capacity}
use Rattle.mp_tiles.proofs.compact.fill_with_none.Given as goal

abbrev pub invariant-loop : goal.invariant-loop
invariant-loop l = record {
  items : l.slots.items ≡ replicate l.counter None;
  room : l.places ≤ vec_capacity l.slots;
  same : vec_capacity l.slots ≡ vec_capacity l.initial.slots;
}
