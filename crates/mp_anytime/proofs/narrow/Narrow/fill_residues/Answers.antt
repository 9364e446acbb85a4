use Rattle.std.proofs.Common.{◌≡◌, ◌+◌, ◌-◌, ◌∙◌, ℕ, ℤ, arith, length, refl, rules, w32}
use Rattle.std.proofs.lemmas.Int.{to_z-of_z}
use Rattle.mp_defs.specs.Distance.{squared_difference}
use Rattle.mp_sums.specs.Residues.{item, residue}
use Rattle.mp_sums.specs.Sums.{square_sum}
use Rattle.mp_sums.specs.SumLaws.{moved_on}
use Rattle.mp_defs.specs.Window.{windows}
use Rattle.mp_defs.specs.SeriesLaws.{series_are_of_samples}
use Rattle.mp_anytime.specs.Rounded.{rounded_in, series_in, whole_in}
use Rattle.mp_anytime.proofs.Moves.{residue_at}
use Rattle.mp_anytime.proofs.NarrowLemmas.{residue_moved, same_step}
use Rattle.mp_anytime.proofs.narrow.Narrow.fill_residues.Goals as goal

pub returns-clause-residues : goal.returns-clause-residues
returns-clause-residues c = λ k lt there.
    let own = c.args.self.now in
    let plan = own.plan in
    let m = plan.grid.m in
    let x = rounded_in plan.rounding.shift (series_in plan) in
    let n = length plan.grid.rows.now in
    let count : length own.free.now ≡ windows n m =
    own.lists.marks.places ∙ series_are_of_samples.windows_are m plan.grid.rows.now in
    let row = c.args.row in
    let offset = c.args.offset in
    let column = row + offset in
    let r : ℕ → ℤ = λ q. residue (whole_in plan (row + q) (row + q + offset)) in
    c.add_up.ensures.residues (length own.free.now - column) r
    (to_z-of_z w32 c.args.whole c.ranges.whole ∙ c.requires.whole
    ∙ residue_at m m x row (row + 0) column (row + 0 + offset) refl (omega arith) (omega arith))
    (λ q here next.
    residue_moved (r q) (item c.fill_steps.new.steps q) (whole_in plan (row + q) (row + q + offset))
    (squared_difference (x (row + q + m)) (x (row + q + offset + m)))
    (squared_difference (x (row + q)) (x (row + q + offset)))
    (square_sum m x (row + q + 1) x (row + q + offset + 1)) refl
    (c.fill_steps.ensures.steps n x q own.lists.narrow here
    (omega (arith, next, count)) (omega (arith, next, count))
    ∙ same_step x (row + m + q) (row + q + m) (column + m + q) (row + q + offset + m) (row + q) (row + q) (column + q)
    (row + q + offset) (omega arith) (omega arith) refl (omega arith))
    (moved_on m x (row + q) x (row + q + offset))
    ∙ residue_at m m x (row + q + 1) (row + (q + 1)) (row + q + offset + 1) (row + (q + 1) + offset) refl (omega arith)
    (omega arith))
    k (omega (arith, lt, c.add_up.ensures.places, c.requires.places)) (omega (arith, there))
