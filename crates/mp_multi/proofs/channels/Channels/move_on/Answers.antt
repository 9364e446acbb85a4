use Rattle.std.proofs.Common.{◌+◌, ◌∙◌, arith}
use Rattle.std.proofs.lemmas.List.{length-set}
use Rattle.mp_multi.proofs.ChannelLemmas.{RunningIn, set_next, set_before, of_channel, to_channel}
use Rattle.mp_multi.proofs.channels.Channels.move_on.Goals as goal

pub loop-c-init : goal.loop-c-init
loop-c-init g c = record {
  places = omega arith;
  done = λ q past lt. absurd (omega (arith, lt));
  left = λ q past le lt. c.requires.running q past lt;
}

pub next-requires-clause-running : goal.next-requires-clause-running
next-requires-clause-running g c =
    let self = c.args.self.now in
    to_channel self.m self.list.now c.args.i c.args.j c.loop-c.c _ _ c.series-channel.ensures
    (c.loop-c.invariant.left c.loop-c.c _ (omega arith) (omega arith))

pub loop-c-preserved : goal.loop-c-preserved
loop-c-preserved g c =
    let self = c.args.self.now in
    record {
      places = length-set _ _ _ ∙ c.loop-c.invariant.places;
      done = λ q past lt. set_next (RunningIn self.m self.list.now (c.args.i + 1) (c.args.j + 1)) past c.loop-c.running
          c.loop-c.c c.next.result (omega arith) (λ r below. c.loop-c.invariant.done r past below)
          (of_channel self.m self.list.now (c.args.i + 1) (c.args.j + 1) c.loop-c.c _ c.next.result
          c.series-channel.ensures c.next.ensures)
          q lt;
      left = λ q past le lt. set_before (RunningIn self.m self.list.now c.args.i c.args.j) past c.loop-c.running
          c.loop-c.c c.next.result q (omega (arith, le)) (c.loop-c.invariant.left q past (omega (arith, le))
          (omega (arith, lt, length-set c.loop-c.running c.loop-c.c c.next.result)));
    }

pub returns : goal.returns
returns g c = λ q past lt. c.loop-c.invariant.done q past (omega (arith, lt))
