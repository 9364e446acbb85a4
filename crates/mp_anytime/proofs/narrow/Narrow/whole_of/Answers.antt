use Rattle.std.proofs.Common.{◌+◌, min, refl, rules, w32, FitsSigned}
use Rattle.mp_sums.specs.Sums.{square_sum}
use Rattle.mp_anytime.specs.Rounded.{core_in, rounded_in, series_in, whole_in}
use Rattle.mp_anytime.proofs.Moves.{sum_with_core}
use Rattle.mp_anytime.proofs.NarrowLemmas.{residue_with}
use Rattle.mp_anytime.proofs.narrow.Narrow.whole_of.Goals as goal

pub returns : goal.returns
returns c =
    let plan = c.args.self.now.plan in
    let m = plan.grid.m in
    let x = rounded_in plan.rounding.shift (series_in plan) in
    let row = c.args.row in
    let column = row + c.args.offset in
    let fits : FitsSigned w32 c.first_of.result = search rules in
    residue_with c.first_of.result c.args.core (square_sum (min m 31) x row x column) (core_in plan row column)
    (whole_in plan row column) fits c.ranges.core c.first_of.ensures c.requires.core
    (sum_with_core m plan.rounding.shift (series_in plan) row column (min m 31) refl)
