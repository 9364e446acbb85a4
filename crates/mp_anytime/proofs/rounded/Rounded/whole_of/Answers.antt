use Rattle.std.proofs.Common.{◌+◌, min, refl, rules, w32, FitsSigned}
use Rattle.mp_anytime.specs.Rounded.{core_in, series_in, whole_in}
use Rattle.mp_anytime.proofs.Moves.{residues_together, sum_with_core}
use Rattle.mp_anytime.proofs.rounded.Rounded.whole_of.Goals as goal

pub returns : goal.returns
returns c =
    let plan = c.args.self.now.plan in
    let m = plan.grid.m in
    let row = c.args.row in
    let column = row + c.args.offset in
    let fits : FitsSigned w32 c.first_of.result = search rules in
    let core_fits : FitsSigned w32 c.args.core = search rules in
    residues_together c.first_of.result c.args.core _ (core_in plan row column) (whole_in plan row column) fits
    core_fits c.first_of.ensures c.requires.core
    (sum_with_core m plan.rounding.shift (series_in plan) row column (min m 31) refl)
