use Rattle.std.proofs.Common.{◌≡◌, ◌+◌, ◌-◌, ◌≤◌, ◌∙◌, arith, length, refl, rules, w32}
use Rattle.std.proofs.Common.{FitsSigned}
use Rattle.std.proofs.lemmas.Int.{to_z-of_z}
use Rattle.mp_defs.specs.Window.{windows}
use Rattle.mp_defs.specs.SeriesLaws.{series_are_of_samples}
use Rattle.mp_anytime.specs.Rounded.{rounded_in, series_in}
use Rattle.mp_anytime.proofs.Moves.{part_long, part_numbers, residue_at}
use Rattle.mp_anytime.proofs.rounded.Rounded.whole.Goals as goal

pub returns : goal.returns
returns c =
    let own = c.args.self.now in
    let plan = own.plan in
    let m = plan.grid.m in
    let row = c.args.row in
    let column = row + c.args.offset in
    let numbers = own.numbers.now in
    let x = rounded_in plan.rounding.shift (series_in plan) in
    let fits : FitsSigned w32 c.first_residue.result = search rules in
    let count : length own.free.now ≡ windows (length plan.grid.rows.now) m =
    own.lists.marks.places ∙ series_are_of_samples.windows_are m plan.grid.rows.now in
    let first : row + (row + m - row) ≤ length numbers =
    omega (arith, count, c.requires, own.lists.all_numbers, plan.some_samples) in
    let second : column + (column + m - column) ≤ length numbers =
    omega (arith, count, c.requires, own.lists.all_numbers, plan.some_samples) in
    to_z-of_z w32 c.first_residue.result fits
    ∙ c.first_residue.ensures x row x column (part_numbers x row (row + m - row) numbers own.lists.are_numbers first)
    (part_numbers x column (column + m - column) numbers own.lists.are_numbers second)
    ∙ residue_at _ m x row row column column (part_long row (row + m - row) numbers first ∙ omega arith) refl refl
