use Rattle.std.proofs.Common.{rules, w32, FitsSigned}
use Rattle.mp_sums.specs.Products.{added_is}
use Rattle.mp_sums.proofs.residues.next_residue.Goals as goal

pub returns : goal.returns
returns c =
    let row_difference : FitsSigned w32 c.args.row.difference = search rules in
    let row_sum : FitsSigned w32 c.args.row.sum = search rules in
    let column_difference : FitsSigned w32 c.args.column.difference = search rules in
    let column_sum : FitsSigned w32 c.args.column.sum = search rules in
    added_is c.args.residue c.args.row.difference c.args.column.difference c.args.row.sum c.args.column.sum
    c.ranges.residue row_difference column_difference row_sum column_sum
