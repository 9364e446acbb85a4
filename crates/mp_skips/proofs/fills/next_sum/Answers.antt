use Rattle.std.proofs.Common.{◌+◌, arith}
use Rattle.mp_defs.specs.Series.{series_of}
use Rattle.mp_skips.specs.Totals.{level}
use Rattle.mp_skips.proofs.FillLemmas.{sum_fits, sum_on, first_in}
use Rattle.mp_skips.proofs.fills.next_sum.Goals as goal

pub overflow_add-result : goal.overflow_add-result
overflow_add-result c =
    let a = series_of c.args.samples.now in
    omega (
      arith,
      c.requires.sum,
      sum_fits c.args.low c.args.range a c.args.count c.args.place c.requires.levels c.requires.few c.requires.range,
      c.level_at-enters.ensures,
      c.requires.levels.each (c.args.place + c.args.count),
      c.requires.range,
    )

pub overflow_sub-result : goal.overflow_sub-result
overflow_sub-result c =
    let x = level c.args.low (series_of c.args.samples.now) in
    omega (
      arith,
      c.requires.sum,
      c.level_at-leaves.ensures,
      first_in x c.args.place c.args.count c.requires.some,
    )

pub returns : goal.returns
returns c =
    let x = level c.args.low (series_of c.args.samples.now) in
    omega (
      arith,
      c.requires.sum,
      c.level_at-enters.ensures,
      c.level_at-leaves.ensures,
      first_in x c.args.place c.args.count c.requires.some,
      sum_on x c.args.place c.args.count,
    )
