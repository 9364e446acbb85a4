use Rattle.std.proofs.Common.{◌+◌, ◌-◌, sym, arith, subst}
use Rattle.mp_multi.specs.Blocks.{channels_of, AreResiduesAt}
use Rattle.mp_multi.proofs.LaneCounts.{handed_on, handed_item}
use Rattle.mp_multi.proofs.RunLemmas.{above_none, above_more, lane_as, residues_as}
use Rattle.mp_multi.proofs.runs.run.Goals as goal

pub loop-q-init : goal.loop-q-init
loop-q-init g c =
    let b = c.args.strip.now.block in
    let at = c.args.from + c.args.strip.now.offset in
    record {
      residues = subst (AreResiduesAt b c.args.from at) (sym c.copy_from_slice.ensures.after) c.requires.residues;
      above = above_none c.args.strip.now c.args.known.now c.args.from;
    }

pub is_within-requires-clause-residues : goal.is_within-requires-clause-residues
is_within-requires-clause-residues g c = handed_on c.lanes_of-lanes.result c.lanes_of-lanes.ensures.lanes

pub loop-q-preserved : goal.loop-q-preserved
loop-q-preserved g c =
    let strip = c.args.strip.now in
    let b = strip.block in
    let q = c.loop-q.q in
    let o = strip.offset in
    let lanes = c.lanes_of-lanes.ensures in
    let i = b.row + q in
    let j = b.column + (q + o) in
    record {
      residues = residues_as b (q + 1) (q + o + 1) (q + 1 + o) _ (omega arith) c.advance.ensures;
      above = above_more strip c.args.known.now c.args.from q (q + o + 32 - (q + o)) _ (omega arith)
          c.loop-q.invariant.above
          (λ t lt. lane_as b.plan.channels.m b.plan.channels.k b.plan.shift (channels_of b.plan) i (j + t) _ _
          (sym (handed_item c.lanes_of-lanes.result t lanes.lanes lt))
          (lanes.each i j t lt c.loop-q.invariant.residues))
          (c.is_within.ensures c.if-is_within.false);
    }
