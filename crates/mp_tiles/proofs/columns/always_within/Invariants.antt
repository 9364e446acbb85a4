use Rattle.std.proofs.Common.{◌≡◌, ◌≤◌, replicate}
use Rattle.std.specs.Prelude.{vec_capacity}
use Rattle.mp_sums.specs.declared.residues.TheConstants.{ALWAYS}
use Rattle.mp_tiles.proofs.columns.always_within.Given as goal

abbrev pub invariant-loop : goal.invariant-loop
invariant-loop l = record {
  items : l.bounds.items ≡ replicate l.counter ALWAYS;
  room : l.places ≤ vec_capacity l.bounds;
  same : vec_capacity l.bounds ≡ vec_capacity l.initial.bounds;
}
