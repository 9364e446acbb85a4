use Rattle.std.proofs.Common.{◌+◌, ◌-◌, ◌∙◌, arith, refl, rules, w32, FitsSigned, to_z}
use Rattle.std.proofs.lemmas.Int.{to_z-of_z}
use Rattle.mp_anytime.specs.Rounded.{rounded_in, series_in}
use Rattle.mp_anytime.proofs.Moves.{moves_on, residue_at}
use Rattle.mp_anytime.proofs.rounded.Rounded.next_core.Goals as goal

pub loop-k-preserved : goal.loop-k-preserved
loop-k-preserved c =
    let own = c.args.self.now in
    let plan = own.plan in
    let core = plan.grid.m - 31 in
    let k = c.loop-k.k in
    let row = c.args.row + 31 + k in
    let column = c.args.row + 31 + c.args.offset + k in
    let x = rounded_in plan.rounding.shift (series_in plan) in
    let fits : FitsSigned w32 c.next_residue-moved.result = search rules in
    to_z-of_z w32 c.next_residue-moved.result fits
    ∙ moves_on core row column x own.cores.differences.now own.cores.sums.now (to_z w32 c.loop-k.moved-bits) _ _ _ _
    c.next_residue-moved.result own.lists.cores
    (omega (arith, c.requires.within, own.lists.all_cores, c.loop-k-test.true))
    (omega (arith, c.requires.within, own.lists.all_cores, c.loop-k-test.true))
    (c.loop-k.invariant ∙ residue_at core core x row row (c.args.row + c.args.offset + 31 + k) column refl refl
    (omega arith))
    c.at.ensures.difference c.at.ensures.sum c.at-in-loop-k.ensures.difference c.at-in-loop-k.ensures.sum
    c.next_residue-moved.ensures
    ∙ residue_at core core x (row + 1) (c.args.row + 31 + (k + 1)) (column + 1)
    (c.args.row + c.args.offset + 31 + (k + 1)) refl (omega arith) (omega arith)
