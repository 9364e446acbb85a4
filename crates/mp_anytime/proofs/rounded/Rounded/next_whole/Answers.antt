use Rattle.std.proofs.Common.{◌+◌, ◌∙◌, arith, refl, rules, w32, FitsSigned, to_z, of_z}
use Rattle.std.proofs.lemmas.Int.{to_z-of_z}
use Rattle.mp_anytime.specs.Rounded.{rounded_in, series_in}
use Rattle.mp_anytime.proofs.Moves.{moves_on, residue_at}
use Rattle.mp_anytime.proofs.rounded.Rounded.next_whole.Goals as goal

pub returns : goal.returns
returns c =
    let own = c.args.self.now in
    let plan = own.plan in
    let m = plan.grid.m in
    let row = c.args.row in
    let column = row + c.args.offset in
    let x = rounded_in plan.rounding.shift (series_in plan) in
    let given : FitsSigned w32 c.args.residue = search rules in
    let fits : FitsSigned w32 c.next_residue.result = search rules in
    to_z-of_z w32 c.next_residue.result fits
    ∙ moves_on m row column x own.windows.differences.now own.windows.sums.now
    (to_z w32 (of_z w32 c.args.residue)) _ _ _ _
    c.next_residue.result own.lists.windows (omega (arith, c.requires.within, own.lists.all_windows))
    (omega (arith, c.requires.within, own.lists.all_windows))
    (to_z-of_z w32 c.args.residue given ∙ c.requires.residue)
    c.at.ensures.difference c.at.ensures.sum c.at-2.ensures.difference c.at-2.ensures.sum c.next_residue.ensures
    ∙ residue_at m m x (row + 1) (row + 1) (column + 1) (row + 1 + c.args.offset) refl refl (omega arith)
