use Rattle.std.proofs.Common.{◌+◌, ◌*◌, ◌<◌, ◌∙◌, arith, []}
use Rattle.std.proofs.lemmas.List.{length-set}
use Rattle.mp_multi.specs.Blocks.{channels_of}
use Rattle.mp_multi.specs.Lanes.{AreChannelResidues}
use Rattle.mp_multi.proofs.ChannelLemmas.{set_next}
use Rattle.mp_multi.proofs.groups.start_strips.Goals as goal

pub loop-s-init : goal.loop-s-init
loop-s-init g c = record {
  places = c.requires.places;
  done = record { each = λ s lt _. absurd (omega (arith, lt)) };
}

pub loop-s-preserved : goal.loop-s-preserved
loop-s-preserved g c =
    let group = c.args.group.now in
    let ch = group.plan.channels in
    let j = c.args.row + group.first in
    let s = c.loop-s.s in
    record {
      places = length-set _ _ _ ∙ c.loop-s.invariant.places;
      done = record {
        each = set_next (λ q v. j + q * 32 < group.windows
            → AreChannelResidues ch.m group.plan.shift (channels_of group.plan) c.args.row (j + q * 32) v) []
            c.loop-s.places s c.start_strip.new.residues (omega arith) c.loop-s.invariant.done.each
            (λ within. c.start_strip.ensures (omega (arith, within, group.all_windows)));
      };
    }
