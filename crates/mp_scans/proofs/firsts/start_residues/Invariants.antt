use Rattle.std.proofs.Common.{◌≡◌, ◌-◌, ◌≤◌, length}
use Rattle.mp_sums.specs.Grids.{row_numbers, column_numbers}
use Rattle.mp_sums.specs.Rounding.{rounded}
use Rattle.mp_sums.specs.Rows.{AreResidues}
use Rattle.mp_scans.proofs.firsts.start_residues.Given as goal

abbrev pub invariant-loop-taken : goal.invariant-loop-taken
invariant-loop-taken l = record {
  places : length l.residues ≡ length l.fn.residues;
  within : l.taken ≤ l.plan.grid.m;
  residues : AreResidues l.taken (rounded l.plan.rounding.shift (row_numbers l.plan.grid)) l.row
      (rounded l.plan.rounding.shift (column_numbers l.plan.grid)) l.column l.residues;
}

abbrev pub decreases-loop-taken : goal.decreases-loop-taken
decreases-loop-taken l = l.plan.grid.m - l.taken
