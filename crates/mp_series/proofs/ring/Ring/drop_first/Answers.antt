use Rattle.std.proofs.Common.{◌<◌, length, sym, subst}
use Rattle.mp_series.proofs.HeldCounts.{held_without_first}
use Rattle.mp_series.proofs.ring.Ring.drop_first.Goals as goal

pub invariant_of-self : goal.invariant_of-self
invariant_of-self c =
    let some : 0 < length c.self.inside.stored.items =
    subst (λ held. 0 < length held.items) (sym c.self.view_is) c.requires in
    rw (c.pop_front.ensures.items, c.drop_first.ensures, c.drop_first-2.ensures.dropped, c.drop_first-2.ensures.held)
    (held_without_first _ _ _ _ _ c.self.invariant some)
