use Rattle.std.proofs.Common.{◌<◌, length, arith, get_or, false}
use Rattle.mp_scans.proofs.LimitLemmas.{column_told}
use Rattle.mp_scans.proofs.limits.fill_column_limits.Goals as goal

pub returns-clause-limits : goal.returns-clause-limits
returns-clause-limits g c = λ p lt.
    let block = c.args.block.now in
    let there : p < length block.free_columns.now = omega (arith, lt, block.column_places) in
    column_told block (g.O.Offers.keeps_column c.args.into.now) c.args.width p (get_or block.free_columns.now p false) _
    (block.column_marks.each p there) (c.fill_column_bounds.ensures.fit p there)
    (c.fill_column_bounds.ensures.bounds p there)
