use Rattle.std.proofs.Common.{arith, rules}
use Rattle.mp_stores.proofs.ArcLemmas.{all_named, block_named}
use Rattle.mp_stores.proofs.arcs.name_marked.Goals as goal

pub loop-block-init : goal.loop-block-init
loop-block-init c = record {
  as_long = c.requires.places;
  named = λ i clear. c.requires.unmarked i (clear (omega arith));
}

pub loop-block-preserved : goal.loop-block-preserved
loop-block-preserved c =
    block_named c.args.profile.now c.args.changed.now c.loop-block.block _ c.loop-block.board.items
    c.name_block.new.board.items (search rules) c.name_block.ensures.marked c.name_block.ensures.unmarked
    c.loop-block.invariant

pub returns : goal.returns
returns c =
    all_named c.args.profile.now c.args.changed.now c.loop-block.block c.loop-block.board.items
    (omega (arith, c.requires.blocks)) c.loop-block.invariant
