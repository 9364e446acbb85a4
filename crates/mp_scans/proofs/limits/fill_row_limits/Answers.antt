use Rattle.std.proofs.Common.{◌<◌, length, arith, get_or, false}
use Rattle.mp_scans.proofs.LimitLemmas.{row_told}
use Rattle.mp_scans.proofs.limits.fill_row_limits.Goals as goal

pub returns-clause-limits : goal.returns-clause-limits
returns-clause-limits g c = λ p lt.
    let block = c.args.block.now in
    let there : p < length block.free_rows.now = omega (arith, lt, block.row_places) in
    row_told block (g.O.Offers.keeps_row c.args.into.now) p (get_or block.free_rows.now p false) _
    (block.row_marks.each p there) (c.fill_row_bounds.ensures.fit p there) (c.fill_row_bounds.ensures.bounds p there)
