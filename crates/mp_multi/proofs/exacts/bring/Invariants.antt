use Rattle.std.proofs.Common.{◌+◌}
use Rattle.mp_multi.specs.Running.{AreRunning}
use Rattle.mp_multi.proofs.exacts.bring.Given as goal

abbrev pub invariant-loop-i : goal.invariant-loop-i
invariant-loop-i g l = AreRunning l.channels.m l.channels.list.now l.i (l.i + l.apart) l.running
