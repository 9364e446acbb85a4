use Rattle.std.proofs.Common.{◌≡◌, ◌+◌, ◌*◌, ◌∙◌, ap, subst, arith}
use Rattle.mp_sums.specs.Sums.{square_sum}
use Rattle.mp_sums.specs.Residues.{residue}
use Rattle.mp_sums.specs.Rows.{AreResidues}
use Rattle.mp_sums.specs.Grids.{row_numbers, column_numbers}
use Rattle.mp_sums.specs.Rounding.{rounded}
use Rattle.mp_scans.proofs.firsts.start_residues.Goals as goal

pub returns-clause-residues : goal.returns-clause-residues
returns-clause-residues c =
    let plan = c.args.plan.now in
    let x = rounded plan.rounding.shift (row_numbers plan.grid) in
    let y = rounded plan.rounding.shift (column_numbers plan.grid) in
    let all : c.loop-taken.taken ≡ plan.grid.m =
    omega (arith, c.loop-taken.invariant.within, c.loop-taken-test.false) in
    let done : AreResidues plan.grid.m x c.args.row y c.args.column c.loop-taken.residues =
    subst (λ m. AreResidues m x c.args.row y c.args.column c.loop-taken.residues) all c.loop-taken.invariant.residues in
    record {
      each = λ s t _ within _.
          done.each (s * 32 + t) within
          ∙ ap (λ j. residue (square_sum plan.grid.m x c.args.row y j)) (omega arith);
    }
