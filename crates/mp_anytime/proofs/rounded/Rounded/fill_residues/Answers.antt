use Rattle.std.proofs.Common.{◌≡◌, ◌+◌, ◌∙◌, ℕ, ℤ, arith, length, refl, rules, w32, FitsSigned}
use Rattle.std.proofs.lemmas.Int.{to_z-of_z}
use Rattle.mp_sums.specs.Residues.{residue}
use Rattle.mp_anytime.specs.Rounded.{rounded_in, series_in, whole_in}
use Rattle.mp_anytime.proofs.Moves.{residue_at, step_on}
use Rattle.mp_anytime.proofs.rounded.Rounded.fill_residues.Goals as goal

pub returns-clause-residues : goal.returns-clause-residues
returns-clause-residues c = λ k lt.
    let own = c.args.self.now in
    let plan = own.plan in
    let m = plan.grid.m in
    let row = c.args.row in
    let offset = c.args.offset in
    let x = rounded_in plan.rounding.shift (series_in plan) in
    let r : ℕ → ℤ = λ q. residue (whole_in plan (row + q) (row + q + offset)) in
    let places : length c.fill_steps.new.steps ≡ 32 = c.fill_steps.ensures.places in
    let fits : FitsSigned w32 c.whole_of.result = search rules in
    let rows = c.of_block-rows in
    let columns = c.of_block-columns in
    c.add_up.ensures.residues 32 r
    (to_z-of_z w32 c.whole_of.result fits ∙ c.whole_of.ensures
    ∙ residue_at m m x row (row + 0) (row + offset) (row + 0 + offset) refl (omega arith) (omega arith))
    (λ q here _.
    step_on m row offset q x own.windows.differences.now own.windows.sums.now _ _ _ _ _ own.lists.windows
    (omega (arith, here, places, c.requires.within, own.lists.all_windows))
    (omega (arith, here, places, c.requires.within, own.lists.all_windows))
    (rows.ensures.differences q (omega (arith, here, places))) (rows.ensures.sums q (omega (arith, here, places)))
    (columns.ensures.differences q (omega (arith, here, places)))
    (columns.ensures.sums q (omega (arith, here, places))) (c.fill_steps.ensures.steps q here))
    k (omega (arith, lt, c.add_up.ensures.places, c.requires.places)) lt
