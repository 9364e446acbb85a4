use Rattle.std.proofs.Common.{◌≡◌, ◌≤◌, length, take}
use Rattle.std.specs.Prelude.{vec_capacity}
use Rattle.mp_tiles.proofs.columns.copy_bounds.Given as goal

abbrev pub invariant-loop-k : goal.invariant-loop-k
invariant-loop-k l = record {
  items : l.bounds.items ≡ take l.k l.others;
  room : length l.others ≤ vec_capacity l.bounds;
  same : vec_capacity l.bounds ≡ vec_capacity l.initial.bounds;
}
