use Rattle.std.proofs.Common.{◌≡◌, ◌+◌, length}
use Rattle.mp_multi.specs.Among.{on_diagonal, TakesAmong}
use Rattle.mp_multi.specs.Running.{AreRunning}
use Rattle.mp_multi.proofs.scans.scan_diagonal.Given as goal

abbrev pub invariant-loop-i : goal.invariant-loop-i
invariant-loop-i g l = record {
  running : AreRunning l.channels.m l.channels.list.now l.i (l.i + l.apart) l.running;
  items : TakesAmong (on_diagonal l.row (l.i + 1) l.apart) l.channels.m l.channels.k l.channels.list.now
      l.fn.into.items l.into.items;
  places : length l.into.items ≡ length l.fn.into.items;
  spare : l.into.spare ≡ l.fn.into.spare;
}
