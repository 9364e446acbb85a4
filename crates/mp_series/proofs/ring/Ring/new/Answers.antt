use Rattle.mp_series.proofs.HeldCounts.{held_none}
use Rattle.mp_series.proofs.ring.Ring.new.Goals as goal

pub invariant_of-result : goal.invariant_of-result
invariant_of-result c =
    rw (
      c.in_ok-with_capacity.ensures,
      c.in_ok-new.ensures,
      c.in_ok-new-2.ensures.dropped,
      c.in_ok-new-2.ensures.held,
    ) (held_none c.args.capacity c.requires.some c.requires.within)
