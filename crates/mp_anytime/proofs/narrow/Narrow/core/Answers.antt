use Rattle.std.proofs.Common.{◌≡◌, ◌+◌, ◌-◌, ◌∙◌, ap, arith, length, rules, w32, FitsSigned}
use Rattle.mp_sums.specs.Sums.{square_sum}
use Rattle.mp_defs.specs.Window.{windows}
use Rattle.mp_defs.specs.SeriesLaws.{series_are_of_samples}
use Rattle.mp_anytime.specs.Rounded.{core_in, rounded_in, series_in}
use Rattle.mp_anytime.specs.Narrow.{wrapped}
use Rattle.mp_anytime.proofs.NarrowLemmas.{as_residue}
use Rattle.mp_anytime.proofs.narrow.Narrow.core.Goals as goal

pub returns : goal.returns
returns c =
    let own = c.args.self.now in
    let plan = own.plan in
    let m = plan.grid.m in
    let x = rounded_in plan.rounding.shift (series_in plan) in
    let n = length plan.grid.rows.now in
    let count : length own.free.now ≡ windows n m =
    own.lists.marks.places ∙ series_are_of_samples.windows_are m plan.grid.rows.now in
    let row = c.args.row in
    let column = row + c.args.offset in
    let fits : FitsSigned w32 c.sum_of_squares.result = search rules in
    let core : c.saturating_sub-count.result ≡ m - 31 = omega (arith, c.saturating_sub-count.ensures) in
    as_residue c.sum_of_squares.result (core_in plan row column) fits
    (c.sum_of_squares.ensures n x own.lists.narrow
    (λ k lt. (omega (arith, lt, core, count, c.requires), omega (arith, lt, core, count, c.requires)))
    ∙ ap (λ q. wrapped (square_sum q x (row + 31) x (column + 31))) core)
