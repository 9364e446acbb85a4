use Rattle.std.proofs.Common.{◌≡◌}
use Rattle.mp_workers.specs.Entries.{HasMore, left_of}
use Rattle.mp_workers.proofs.entries.Entries.take_left.Given as goal

abbrev pub invariant-loop-place : goal.invariant-loop-place
invariant-loop-place l = record {
  left : HasMore (left_of l.self.series) l.initial.into.left l.into.left;
  right : l.into.right ≡ l.initial.into.right;
  room : l.into.room ≡ l.initial.into.room;
}
