use Rattle.std.proofs.Common.{◌≡◌, ◌+◌, ◌<◌, ◌∙◌, ap, arith, length, min, rules, w32, FitsSigned}
use Rattle.std.proofs.lemmas.Int.{to_z-of_z}
use Rattle.mp_defs.specs.Distance.{squared_difference}
use Rattle.mp_sums.specs.Sums.{square_sum}
use Rattle.mp_sums.specs.SumLaws.{sum_more}
use Rattle.mp_defs.specs.Window.{windows}
use Rattle.mp_defs.specs.SeriesLaws.{series_are_of_samples}
use Rattle.mp_anytime.specs.Rounded.{rounded_in, series_in}
use Rattle.mp_anytime.specs.Narrow.{wrapped}
use Rattle.mp_anytime.proofs.NarrowLemmas.{narrow_at, without_last}
use Rattle.mp_anytime.proofs.narrow.Narrow.first_of.Goals as goal

pub returns-then-m-le-BEHIND : goal.returns-then-m-le-BEHIND
returns-then-m-le-BEHIND c =
    let own = c.args.self.now in
    let plan = own.plan in
    let m = plan.grid.m in
    let x = rounded_in plan.rounding.shift (series_in plan) in
    let n = length plan.grid.rows.now in
    let count : length own.free.now ≡ windows n m =
    own.lists.marks.places ∙ series_are_of_samples.windows_are m plan.grid.rows.now in
    let row = c.args.row in
    let column = row + c.args.offset in
    let all : m ≡ min m 31 = omega (arith, c.if-m-le-BEHIND.true) in
    let fits : FitsSigned w32 c.sum_of_squares.result = search rules in
    to_z-of_z w32 c.sum_of_squares.result fits
    ∙ c.sum_of_squares.ensures n x own.lists.narrow
    (λ k lt. (omega (arith, lt, count, c.requires), omega (arith, lt, count, c.requires)))
    ∙ ap (λ q. wrapped (square_sum q x row x column)) all

pub returns : goal.returns
returns c =
    let own = c.args.self.now in
    let plan = own.plan in
    let m = plan.grid.m in
    let x = rounded_in plan.rounding.shift (series_in plan) in
    let n = length plan.grid.rows.now in
    let count : length own.free.now ≡ windows n m =
    own.lists.marks.places ∙ series_are_of_samples.windows_are m plan.grid.rows.now in
    let row = c.args.row in
    let column = row + c.args.offset in
    let block : FitsSigned w32 c.block_squares.result = search rules in
    let last : FitsSigned w32 c.square-last.result = search rules in
    let first : 31 ≡ min m 31 = omega (arith, c.if-m-le-BEHIND.false) in
    let row_in : row + 31 < n = omega (arith, count, c.requires, c.if-m-le-BEHIND.false) in
    let column_in : column + 31 < n = omega (arith, count, c.requires, c.if-m-le-BEHIND.false) in
    let numbers = own.numbers.now in
    without_last c.block_squares.result c.square-last.result (square_sum 32 x row x column)
    (squared_difference (x (row + 31)) (x (column + 31))) (square_sum 31 x row x column) block last
    (c.block_squares.ensures n x own.lists.narrow (omega (arith, row_in)) (omega (arith, column_in)))
    (c.square-last.ensures (x (row + 31)) (x (column + 31))
    (own.lists.narrow.near.each (row + 31) (column + 31) row_in column_in)
    (narrow_at n x numbers (row + 31) own.lists.narrow row_in)
    (narrow_at n x numbers (column + 31) own.lists.narrow column_in))
    (sum_more 31 x row x column) ∙ ap (λ q. wrapped (square_sum q x row x column)) first
