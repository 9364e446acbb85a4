use Rattle.std.proofs.Common.{arith, ◌∙◌}
use Rattle.mp_tiles.proofs.ColumnLemmas.{cleared_next, all_cleared}
use Rattle.mp_tiles.proofs.columns.Column.clear.Goals as goal

pub loop-k-preserved : goal.loop-k-preserved
loop-k-preserved c = record {
  clear = rw c.set.ensures.slots
      (cleared_next c.loop-k.k c.args.self.now.slots c.loop-k.self.slots _ (omega arith) c.loop-k.invariant.clear
      c.none.ensures);
  room = c.set.ensures.room ∙ c.loop-k.invariant.room;
}

pub returns : goal.returns
returns c = record {
  slots = all_cleared c.loop-k.k c.args.self.now.slots c.loop-k.self.slots (omega arith) c.loop-k.invariant.clear;
  room = c.loop-k.invariant.room;
}
