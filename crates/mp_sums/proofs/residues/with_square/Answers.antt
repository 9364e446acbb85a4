use Rattle.std.proofs.Common.{◌∙◌}
use Rattle.mp_sums.specs.Products.{added_is}
use Rattle.mp_sums.proofs.StepLemmas.{residue_of_more}
use Rattle.mp_sums.proofs.residues.with_square.Goals as goal

pub returns : goal.returns
returns c = λ m x i y j e f g.
    added_is c.args.residue c.args.row c.args.column c.args.row c.args.column c.ranges.residue c.ranges.row
    c.ranges.column c.ranges.row c.ranges.column
    ∙ residue_of_more c.args.residue c.args.row c.args.column m x i y j e f g
