use Rattle.std.proofs.Common.{◌+◌, ◌∙◌, arith, rules, w32, FitsSigned}
use Rattle.std.proofs.lemmas.Int.{to_z-of_z}
use Rattle.mp_scans.proofs.PairLemmas.{window_within, residue_tells}
use Rattle.mp_scans.proofs.pairs.distance_at.Goals as goal

pub returns-then-block-clause-distance : goal.returns-then-block-clause-distance
returns-then-block-clause-distance c = λ d there.
    let b = c.args.strip.now.block in
    let fits : FitsSigned w32 c.args.pair.residue = search rules in
    residue_tells b.grid b.rounding.shift (b.row + c.args.pair.row) (b.column + c.args.pair.column) d c.sum_of.result
    c.args.pair.residue (b.exact c.if-block.true)
    (window_within b.grid.m b.grid.rows.now (b.row + c.args.pair.row) b.some_samples
    (omega (arith, c.requires.pair.row, c.args.strip.now.rows, b.are_rows)))
    (window_within b.grid.m b.grid.columns.now (b.column + c.args.pair.column) b.some_samples c.requires.pair.is_column)
    c.requires.pair.residue
    (λ q lt e. c.sum_of.ensures.sum q lt (to_z-of_z w32 c.args.pair.residue fits ∙ e)) there
