use Rattle.std.proofs.Common.{◌∙◌, w32, FitsSigned, rules, arith}
use Rattle.std.proofs.lemmas.Int.{to_z-of_z}
use Rattle.mp_sums.specs.Residues.{item}
use Rattle.mp_sums.proofs.StepLemmas.{residue_of_none}
use Rattle.mp_sums.proofs.residues.first_residue.Goals as goal

pub loop-k-init : goal.loop-k-init
loop-k-init c = λ x i y j _ _. residue_of_none x i y j

pub loop-k-preserved : goal.loop-k-preserved
loop-k-preserved c = λ x i y j h k.
    let at = c.loop-k.k in
    let row : FitsSigned w32 (item c.args.row.now at) = search rules in
    let column : FitsSigned w32 (item c.args.column.now at) = search rules in
    let fits : FitsSigned w32 c.with_square-residue.result = search rules in
    to_z-of_z w32 c.with_square-residue.result fits
    ∙ c.with_square-residue.ensures at x i y j (c.loop-k.invariant x i y j h k)
    (to_z-of_z w32 (item c.args.row.now at) row ∙ h.each at (omega arith))
    (to_z-of_z w32 (item c.args.column.now at) column ∙ k.each at (omega arith))
