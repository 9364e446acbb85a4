use Rattle.std.proofs.Common.{◌<◌, ◌∙◌, sym, arith, []}
use Rattle.std.proofs.lemmas.List.{length-set, length-map}
use Rattle.mp_defs.specs.Series.{series_of}
use Rattle.mp_results.specs.Multi.{channel_at}
use Rattle.mp_multi.specs.Blocks.{channels_of}
use Rattle.mp_multi.specs.Lanes.{AreLanesIn}
use Rattle.mp_multi.specs.Tiling.{window_count}
use Rattle.mp_multi.proofs.ChannelLemmas.{set_next}
use Rattle.mp_multi.proofs.GroupLemmas.{started}
use Rattle.mp_multi.proofs.groups.start_strip.Goals as goal

pub loop-n-preserved : goal.loop-n-preserved
loop-n-preserved c =
    let plan = c.args.plan.now in
    let ch = plan.channels in
    let n = c.loop-n.n in
    let of = c.plan-channel.ensures in
    let new = c.start_residues.new.residues in
    record {
      places = length-set _ _ _ ∙ c.loop-n.invariant.places;
      done = set_next (λ q v. c.args.column < window_count ch.m ch.list.now
          → AreLanesIn ch.m plan.shift (channel_at (channels_of plan) q) c.args.row c.args.column v) []
          c.loop-n.residues
          n new (omega arith) c.loop-n.invariant.done
          (started ch.list.now n c.args.row c.args.column ch.m plan.shift c.plan-channel.result.grid
          c.plan-channel.result.rounding.shift new of.rows of.columns of.m of.shift (omega arith)
          (omega (arith, c.requires.channels)) ch.are.one_length c.start_residues.ensures.residues);
    }

pub returns : goal.returns
returns c = λ within. record {
  count = c.loop-n.invariant.places ∙ c.requires.channels ∙ sym
      (length-map c.args.plan.now.channels.list.now series_of);
  each = λ n lt. c.loop-n.invariant.done n (omega (arith, lt)) within;
}
