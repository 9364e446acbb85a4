use Rattle.std.proofs.Common.{◌≡◌, ◌+◌, ◌-◌, ◌≤◌, ◌∙◌, arith, length, refl, rules, w32}
use Rattle.std.proofs.Common.{FitsSigned}
use Rattle.std.proofs.lemmas.Int.{to_z-of_z}
use Rattle.mp_defs.specs.Window.{windows}
use Rattle.mp_defs.specs.SeriesLaws.{series_are_of_samples}
use Rattle.mp_anytime.specs.Rounded.{rounded_in, series_in}
use Rattle.mp_anytime.proofs.Moves.{part_long, part_numbers, residue_at}
use Rattle.mp_anytime.proofs.rounded.Rounded.first_core.Goals as goal

pub returns : goal.returns
returns c =
    let own = c.args.self.now in
    let plan = own.plan in
    let m = plan.grid.m in
    let offset = c.args.offset in
    let numbers = own.numbers.now in
    let x = rounded_in plan.rounding.shift (series_in plan) in
    let end = 31 + c.saturating_sub-end.result in
    let fits : FitsSigned w32 c.first_residue.result = search rules in
    let count : length own.free.now ≡ windows (length plan.grid.rows.now) m =
    own.lists.marks.places ∙ series_are_of_samples.windows_are m plan.grid.rows.now in
    let row : 31 + (end - 31) ≤ length numbers =
    omega (arith, c.saturating_sub-end.ensures, count, c.requires, own.lists.all_numbers, plan.some_samples) in
    let column : offset + 31 + (offset + end - (offset + 31)) ≤ length numbers =
    omega (arith, c.saturating_sub-end.ensures, count, c.requires, own.lists.all_numbers, plan.some_samples) in
    to_z-of_z w32 c.first_residue.result fits
    ∙ c.first_residue.ensures x 31 x (offset + 31) (part_numbers x 31 (end - 31) numbers own.lists.are_numbers row)
    (part_numbers x (offset + 31) (offset + end - (offset + 31)) numbers own.lists.are_numbers column)
    ∙ residue_at _ (m - 31) x 31 (0 + 31) (offset + 31) (offset + 31)
    (part_long 31 (end - 31) numbers row ∙ omega (arith, c.saturating_sub-end.ensures)) (omega arith) refl
