use Rattle.std.proofs.Common.{◌+◌, arith}
use Rattle.mp_anytime.proofs.RowPairs.{no_last, not_waiting, waits_still}
use Rattle.mp_anytime.proofs.offers.offer_at.Goals as goal

pub returns-then-is_waiting-clause-scanned : goal.returns-then-is_waiting-clause-scanned
returns-then-is_waiting-clause-scanned c =
    let row = c.args.row.now in
    no_last row.m row.samples.now.items row.covered.now row.last c.args.diagonal c.args.profile.now row.row.shortest
    row.row.within
    (waits_still row.m (row.last + 1) c.args.diagonal row.covered.now c.is_waiting.result c.requires.zone
    (omega (arith, c.requires.within))
    (c.is_waiting.ensures row.m (row.last + 1) row.covered.now row.row.waits) c.if-is_waiting.true)
    c.requires.ready.places

pub offer_covered-requires-clause-covered : goal.offer_covered-requires-clause-covered
offer_covered-requires-clause-covered c =
    let row = c.args.row.now in
    not_waiting row.m (row.last + 1) c.args.diagonal row.covered.now c.is_waiting.result c.requires.zone
    (omega (arith, c.requires.within))
    (c.is_waiting.ensures row.m (row.last + 1) row.covered.now row.row.waits) c.if-is_waiting.false
