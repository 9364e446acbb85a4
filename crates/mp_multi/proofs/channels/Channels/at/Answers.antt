use Rattle.std.proofs.Common.{◌∙◌, arith}
use Rattle.std.proofs.lemmas.List.{length-set, length-replicate}
use Rattle.mp_multi.proofs.ChannelLemmas.{RunningIn, set_next, of_channel}
use Rattle.mp_multi.proofs.channels.Channels.at.Goals as goal

pub loop-c-init : goal.loop-c-init
loop-c-init g c = record {
  places = length-replicate _ _;
  done = λ q past lt. absurd (omega (arith, lt));
}

pub loop-c-preserved : goal.loop-c-preserved
loop-c-preserved g c =
    let self = c.args.self.now in
    record {
      places = length-set _ _ _ ∙ c.loop-c.invariant.places;
      done = λ q past lt. set_next (RunningIn self.m self.list.now c.args.i c.args.j) past c.loop-c.running c.loop-c.c
          c.of.result (omega arith) (λ r below. c.loop-c.invariant.done r past below)
          (of_channel self.m self.list.now c.args.i c.args.j c.loop-c.c _ c.of.result c.series-channel.ensures
          c.of.ensures) q lt;
    }

pub returns : goal.returns
returns g c = λ q past lt. c.loop-c.invariant.done q past (omega (arith, lt))
