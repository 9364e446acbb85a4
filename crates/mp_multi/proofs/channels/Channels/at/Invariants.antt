use Rattle.std.proofs.Common.{◌≡◌, ℕ, ◌<◌, length, get_or}
use Rattle.mp_multi.specs.declared.running.Running.{Running}
use Rattle.mp_multi.proofs.ChannelLemmas.{RunningIn}
use Rattle.mp_multi.proofs.channels.Channels.at.Given as goal

abbrev pub invariant-loop-c : goal.invariant-loop-c
invariant-loop-c g l = record {
  places : length l.running ≡ g.row.D;
  done : (q : ℕ) (past : Running) → q < l.c
      → RunningIn l.self.m l.self.list.now l.i l.j q (get_or l.running q past);
}
