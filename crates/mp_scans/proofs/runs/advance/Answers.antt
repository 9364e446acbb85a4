use Rattle.std.proofs.Common.{◌+◌, ◌-◌, arith}
use Rattle.mp_scans.specs.Blocks.{rounded_columns}
use Rattle.mp_scans.proofs.RunLemmas.{residue_lanes, part_lanes, difference_fits, sum_fits, next_residues}
use Rattle.mp_scans.proofs.runs.advance.Goals as goal

pub step-requires-clause-residues : goal.step-requires-clause-residues
step-requires-clause-residues c = residue_lanes c.args.block.now c.args.k c.args.c _ c.requires.residues

pub step-requires-clause-differences : goal.step-requires-clause-differences
step-requires-clause-differences c =
    let b = c.args.block.now in
    part_lanes _ c.args.c (c.args.c + 32 - c.args.c) (omega arith) c.requires.columns
    (λ t lt. difference_fits b.grid.m (rounded_columns b) b.column _ _ b.column_changes (c.args.c + t)
    (omega (arith, lt, c.requires.columns)))

pub step-requires-clause-sums : goal.step-requires-clause-sums
step-requires-clause-sums c =
    let b = c.args.block.now in
    part_lanes _ c.args.c (c.args.c + 32 - c.args.c) (omega arith) (omega (arith, b.column_changes.same))
    (λ t lt. sum_fits b.grid.m (rounded_columns b) b.column _ _ b.column_changes (c.args.c + t)
    (omega (arith, lt, c.requires.columns)))

pub returns : goal.returns
returns c =
    next_residues c.args.block.now c.args.k c.args.c (c.args.c + 32 - c.args.c) _ _ c.requires.row c.requires.columns
    (omega arith) c.requires.residues c.step.ensures.lanes c.step.ensures.moved
