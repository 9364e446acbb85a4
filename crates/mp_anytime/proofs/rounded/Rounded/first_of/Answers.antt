use Rattle.std.proofs.Common.{◌≡◌, ℕ, ◌+◌, ◌-◌, ◌≤◌, ◌∙◌, arith, length, min, refl, rules, w32, FitsSigned}
use Rattle.std.proofs.lemmas.Int.{to_z-of_z}
use Rattle.mp_defs.specs.SeriesLaws.{series_are_of_samples}
use Rattle.mp_defs.specs.Window.{windows}
use Rattle.mp_anytime.specs.Rounded.{rounded_in, series_in}
use Rattle.mp_anytime.proofs.Moves.{part_long, part_numbers, residue_at}
use Rattle.mp_anytime.proofs.rounded.Rounded.first_of.Goals as goal

pub returns-then-m-lt-BEHIND : goal.returns-then-m-lt-BEHIND
returns-then-m-lt-BEHIND c =
    let own = c.args.self.now in
    let plan = own.plan in
    let m = plan.grid.m in
    let row = c.args.row in
    let column = row + c.args.offset in
    let n = m in
    let numbers = own.numbers.now in
    let x = rounded_in plan.rounding.shift (series_in plan) in
    let fits : FitsSigned w32 c.first_residue.result = search rules in
    let count : length own.free.now ≡ windows (length plan.grid.rows.now) m =
    own.lists.marks.places ∙ series_are_of_samples.windows_are m plan.grid.rows.now in
    let first : row + (row + n - row) ≤ length numbers =
    omega (arith, count, c.requires, c.if-m-lt-BEHIND.true, own.lists.all_numbers, plan.some_samples) in
    let second : column + (column + n - column) ≤ length numbers =
    omega (arith, count, c.requires, c.if-m-lt-BEHIND.true, own.lists.all_numbers, plan.some_samples) in
    let all : row + n - row ≡ min m 31 = omega (arith, c.if-m-lt-BEHIND.true) in
    to_z-of_z w32 c.first_residue.result fits
    ∙ c.first_residue.ensures x row x column
    (part_numbers x row (row + n - row) numbers own.lists.are_numbers first)
    (part_numbers x column (column + n - column) numbers own.lists.are_numbers second)
    ∙ residue_at _ (min m 31) x row row column column (part_long row (row + n - row) numbers first ∙ all) refl refl

pub returns-else-m-lt-BEHIND : goal.returns-else-m-lt-BEHIND
returns-else-m-lt-BEHIND c =
    let own = c.args.self.now in
    let plan = own.plan in
    let m = plan.grid.m in
    let row = c.args.row in
    let column = row + c.args.offset in
    let n : ℕ = 31 in
    let numbers = own.numbers.now in
    let x = rounded_in plan.rounding.shift (series_in plan) in
    let fits : FitsSigned w32 c.first_residue-else-m-lt-BEHIND.result = search rules in
    let count : length own.free.now ≡ windows (length plan.grid.rows.now) m =
    own.lists.marks.places ∙ series_are_of_samples.windows_are m plan.grid.rows.now in
    let first : row + (row + n - row) ≤ length numbers =
    omega (arith, count, c.requires, c.if-m-lt-BEHIND.false, own.lists.all_numbers, plan.some_samples) in
    let second : column + (column + n - column) ≤ length numbers =
    omega (arith, count, c.requires, c.if-m-lt-BEHIND.false, own.lists.all_numbers, plan.some_samples) in
    let all : row + n - row ≡ min m 31 = omega (arith, c.if-m-lt-BEHIND.false) in
    to_z-of_z w32 c.first_residue-else-m-lt-BEHIND.result fits
    ∙ c.first_residue-else-m-lt-BEHIND.ensures x row x column
    (part_numbers x row (row + n - row) numbers own.lists.are_numbers first)
    (part_numbers x column (column + n - column) numbers own.lists.are_numbers second)
    ∙ residue_at _ (min m 31) x row row column column (part_long row (row + n - row) numbers first ∙ all) refl refl
