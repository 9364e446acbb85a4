use Rattle.std.proofs.Common.{◌≡◌, ◌+◌, ◌∙◌, arith, length, rules, w32, FitsSigned}
use Rattle.mp_defs.specs.Window.{windows}
use Rattle.mp_defs.specs.SeriesLaws.{series_are_of_samples}
use Rattle.mp_anytime.specs.Rounded.{rounded_in, series_in, whole_in}
use Rattle.mp_anytime.proofs.NarrowLemmas.{as_residue}
use Rattle.mp_anytime.proofs.narrow.Narrow.whole.Goals as goal

pub returns : goal.returns
returns c =
    let own = c.args.self.now in
    let plan = own.plan in
    let m = plan.grid.m in
    let x = rounded_in plan.rounding.shift (series_in plan) in
    let n = length plan.grid.rows.now in
    let count : length own.free.now ≡ windows n m =
    own.lists.marks.places ∙ series_are_of_samples.windows_are m plan.grid.rows.now in
    let row = c.args.row in
    let fits : FitsSigned w32 c.sum_of_squares.result = search rules in
    as_residue c.sum_of_squares.result (whole_in plan row (row + c.args.offset)) fits
    (c.sum_of_squares.ensures n x own.lists.narrow
    (λ k lt. (omega (arith, lt, count, c.requires), omega (arith, lt, count, c.requires))))
