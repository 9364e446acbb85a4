use Rattle.mp_skips.proofs.PartLemmas.{within_wider}
use Rattle.mp_skips.proofs.summed.SummedBoth.of.Goals as goal

pub sum_up-requires-clause-levels : goal.sum_up-requires-clause-levels
sum_up-requires-clause-levels c =
    c.units_for-units.ensures.levels c.args.plan.now.grid.rows.now
    (within_wider c.with_samples-range.result c.range_of.result c.args.plan.now.grid.rows.now
    c.with_samples-range.ensures.wider c.range_of.ensures)
