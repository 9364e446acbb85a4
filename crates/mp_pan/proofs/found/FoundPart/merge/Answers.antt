use Rattle.mp_pan.proofs.Putting.{columns_are, merged_for_lengths}
use Rattle.mp_pan.proofs.found.FoundPart.merge.Goals as goal

pub invariant_of-self : goal.invariant_of-self
invariant_of-self c = record {
  room = c.self.invariant.room;
  best = merged_for_lengths c.self.inside.best c.other.inside.best c.merge.new.self c.self.invariant.best
      c.other.invariant.best c.merge.ensures.starts c.merge.ensures.nearest;
  discord = merged_for_lengths c.self.inside.discord c.other.inside.discord c.merge-2.new.self
      c.self.invariant.discord c.other.invariant.discord c.merge-2.ensures.starts c.merge-2.ensures.nearest;
}

pub returns-clause-is_value : goal.returns-clause-is_value
returns-clause-is_value c =
    columns_are c.merge.new.self c.merge-2.new.self
    (merged_for_lengths c.self.inside.best c.other.inside.best c.merge.new.self c.self.invariant.best
    c.other.invariant.best c.merge.ensures.starts c.merge.ensures.nearest)
    (merged_for_lengths c.self.inside.discord c.other.inside.discord c.merge-2.new.self
    c.self.invariant.discord c.other.invariant.discord c.merge-2.ensures.starts c.merge-2.ensures.nearest)
