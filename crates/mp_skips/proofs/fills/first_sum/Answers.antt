use Rattle.std.proofs.Common.{◌+◌, sym, arith}
use Rattle.mp_defs.specs.Series.{series_of}
use Rattle.mp_skips.specs.Totals.{level}
use Rattle.mp_skips.proofs.TotalLemmas.{total_zero}
use Rattle.mp_skips.proofs.FillLemmas.{sum_fits, sum_more}
use Rattle.mp_skips.proofs.fills.first_sum.Goals as goal

pub loop-t-init : goal.loop-t-init
loop-t-init c = sym (total_zero (λ u. level c.args.low (series_of c.args.samples.now) (0 + u)))

pub overflow_add-sum : goal.overflow_add-sum
overflow_add-sum c =
    omega (
      arith,
      c.loop-t.invariant,
      sum_fits c.args.low c.args.range (series_of c.args.samples.now) c.loop-t.t 0 c.requires.levels
          (omega (arith, c.requires.few)) c.requires.range,
      c.level_at-sum.ensures,
      c.requires.levels.each c.loop-t.t,
      c.requires.range,
    )

pub loop-t-preserved : goal.loop-t-preserved
loop-t-preserved c =
    sum_more (level c.args.low (series_of c.args.samples.now)) c.loop-t.t c.loop-t.sum c.level_at-sum.result
    c.loop-t.invariant c.level_at-sum.ensures
