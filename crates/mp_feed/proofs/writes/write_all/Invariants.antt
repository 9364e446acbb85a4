use Rattle.std.proofs.Common.{◌≡◌, ℕ, ◌+◌, ◌-◌, ◌<◌, ◌≤◌, false, List, ◌++◌, length, take}
use Rattle.std.specs.Prelude.{Some}
use Rattle.mp_feed.proofs.writes.write_all.Given as goal

abbrev pub invariant-loop-sent : goal.invariant-loop-sent
invariant-loop-sent g l = record {
  within : l.sent ≤ length l.text;
  told : (before : List ℕ) → g.K.Sink.written l.initial.out ≡ Some before
      → length before + length l.text ≤ g.K.Sink.room l.initial.out
      → g.K.Sink.written l.out ≡ Some (before ++ take l.sent l.text);
  unflushed : 0 < l.sent → g.K.Sink.flushed l.out ≡ false;
  room : g.K.Sink.room l.out ≡ g.K.Sink.room l.initial.out;
  faults : g.K.Sink.faults l.initial.out ≤ g.K.Sink.faults l.out;
}

abbrev pub decreases-loop-sent : goal.decreases-loop-sent
decreases-loop-sent g l = length l.text - l.sent
