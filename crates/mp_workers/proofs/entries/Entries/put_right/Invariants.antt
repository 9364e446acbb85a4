use Rattle.std.proofs.Common.{◌≡◌, ◌+◌, ◌≤◌, take}
use Rattle.mp_workers.specs.Entries.{count_of, right_of}
use Rattle.mp_workers.specs.Tellers.{IsHold, IsWholeTold}
use Rattle.mp_workers.proofs.entries.Entries.put_right.Given as goal

abbrev pub invariant-loop-place : goal.invariant-loop-place
invariant-loop-place l = record {
  items : l.column.items ≡ take l.place (right_of l.self.series);
  room : count_of l.self.series ≤ l.column.spare + l.place;
  hold : IsHold l.self l.hold;
  whole : IsWholeTold l.self.series l.hold.told;
}
