use Rattle.std.proofs.Common.{◌∙◌, arith}
use Rattle.std.proofs.lemmas.List.{length-set}
use Rattle.mp_multi.specs.Moving.{IsMoved, channel_numbers}
use Rattle.mp_multi.proofs.ChannelLemmas.{set_next}
use Rattle.mp_multi.proofs.moves.fill_moves.Goals as goal

pub loop-n-preserved : goal.loop-n-preserved
loop-n-preserved c =
    let plan = c.args.plan.now in
    record {
      places = length-set _ _ _ ∙ c.loop-n.invariant.places;
      done = λ q past lt. set_next (λ n. IsMoved plan.channels.m (channel_numbers plan.shift plan.channels.list.now n)
          c.args.row c.args.column) past c.loop-n.moves c.loop-n.n c.fill_channel.new.moves (omega arith)
          (λ r below. c.loop-n.invariant.done r past below) c.fill_channel.ensures q lt;
    }

pub returns-clause-moved : goal.returns-clause-moved
returns-clause-moved c = record {
  each = λ n past lt. c.loop-n.invariant.done n past (omega (arith, lt));
}
