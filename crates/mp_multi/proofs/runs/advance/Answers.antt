use Rattle.std.proofs.Common.{◌+◌, ◌∙◌, [], arith}
use Rattle.std.proofs.lemmas.List.{length-set}
use Rattle.mp_multi.specs.Blocks.{IsChannelAt}
use Rattle.mp_multi.proofs.ChannelLemmas.{set_next, set_before}
use Rattle.mp_multi.proofs.runs.advance.Goals as goal

pub loop-n-init : goal.loop-n-init
loop-n-init c = record {
  places = omega arith;
  done = λ q lt. absurd (omega (arith, lt));
  left = λ q le lt. c.requires.residues.each q lt;
}

pub advance_channel-requires-clause-residues : goal.advance_channel-requires-clause-residues
advance_channel-requires-clause-residues c = c.loop-n.invariant.left c.loop-n.n (omega arith) (omega arith)

pub loop-n-preserved : goal.loop-n-preserved
loop-n-preserved c =
    let before = c.loop-n.invariant in
    record {
      places = length-set _ _ _ ∙ before.places;
      done = λ q lt. set_next (λ n. IsChannelAt c.args.block.now n (c.args.p + 1) (c.args.c + 1)) [] c.loop-n.residues
          c.loop-n.n c.advance_channel.new.residues (omega arith) before.done c.advance_channel.ensures q lt;
      left = λ q le lt. set_before (λ n. IsChannelAt c.args.block.now n c.args.p c.args.c) [] c.loop-n.residues
          c.loop-n.n c.advance_channel.new.residues q (omega (arith, le)) (before.left q (omega (arith, le)) lt);
    }

pub returns : goal.returns
returns c = record {
  count = c.loop-n.invariant.places ∙ c.requires.residues.count;
  each = λ q lt. c.loop-n.invariant.done q (omega (arith, lt));
}
