use Rattle.std.proofs.Common.{ap, arith, get_or}
use Rattle.mp_stream.proofs.Taken.{best_kept, coarse_kept, offered_kept}
use Rattle.mp_stream.proofs.offers.offer_group.Goals as goal

pub returns-else-is_below-clause-offered : goal.returns-else-is_below-clause-offered
returns-else-is_below-clause-offered c =
    offered_kept _ _ _ _ _ _ _ c.requires.ready (λ i low high.
    let above = c.is_below.ensures.above c.if-is_below.false i low high in
    let each = c.requires.ready.limits.each i (omega (arith, high, c.requires.ready.rights)) in
    coarse_kept _ _ _ (c.requires.small i (omega (arith, high)))
    (omega (arith, above.0, each, ap (λ list. get_or list i 0) c.as_slice-limits.ensures)))

pub returns-else-is_below-clause-best : goal.returns-else-is_below-clause-best
returns-else-is_below-clause-best c =
    best_kept _ _ c.args.first c.args.end _ (omega arith) c.requires.best (λ i low high.
    let above = c.is_below.ensures.above c.if-is_below.false i low high in
    coarse_kept _ _ i (c.requires.small i (omega (arith, high)))
    (omega (arith, above.1, c.coarse_limit.ensures.limit)))
