use Rattle.std.proofs.Common.{refl, sym, arith}
use Rattle.mp_partial.proofs.Merging.{merged_part_starts, merged_part_next, merged_part_ends}
use Rattle.mp_partial.proofs.columns.merge_from.Goals as goal

pub loop-k-init : goal.loop-k-init
loop-k-init c = record {
  side = merged_part_starts _ _ _ _ _ refl c.requires.within (omega arith);
  both = merged_part_starts _ _ _ _ _ (sym c.requires.both) c.requires.within (omega arith);
}

pub loop-k-preserved : goal.loop-k-preserved
loop-k-preserved c = record {
  side = merged_part_next _ _ _ _ _ _ _ refl c.requires.within (omega arith) c.loop-k.invariant.side
      c.merge_slot.ensures.side;
  both = merged_part_next _ _ _ _ _ _ _ (sym c.requires.both) c.requires.within (omega arith)
      c.loop-k.invariant.both c.merge_slot.ensures.both;
}

pub returns-clause-side : goal.returns-clause-side
returns-clause-side c = merged_part_ends _ _ _ _ _ _ refl c.requires.within (omega arith) c.loop-k.invariant.side

pub returns-clause-both : goal.returns-clause-both
returns-clause-both c =
    merged_part_ends _ _ _ _ _ _ (sym c.requires.both) c.requires.within (omega arith) c.loop-k.invariant.both
