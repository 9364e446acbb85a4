use Rattle.std.proofs.Common.{◌≡◌}
use Rattle.mp_workers.specs.Entries.{HasMore, right_of}
use Rattle.mp_workers.proofs.entries.Entries.take_right.Given as goal

abbrev pub invariant-loop-place : goal.invariant-loop-place
invariant-loop-place l = record {
  left : l.into.left ≡ l.initial.into.left;
  right : HasMore (right_of l.self.series) l.initial.into.right l.into.right;
  room : l.into.room ≡ l.initial.into.room;
}
