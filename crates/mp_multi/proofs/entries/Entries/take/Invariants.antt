use Rattle.std.proofs.Common.{◌≡◌, length}
use Rattle.mp_partial.specs.Values.{Column}
use Rattle.mp_workers.specs.Entries.{HasMore}
use Rattle.mp_multi.proofs.entries.Entries.take.Given as goal

abbrev pub invariant-loop-place : goal.invariant-loop-place
invariant-loop-place l = record {
  more : (first : Column) → HasMore l.self first l.initial.into.items → HasMore l.self first l.into.items;
  size : length l.into.items ≡ length l.initial.into.items;
  spare : l.into.spare ≡ l.initial.into.spare;
}
