use Rattle.std.proofs.Common.{◌-◌, ◌≤◌}
use Rattle.mp_anytime.specs.Scanning.{is_pair_from}
use Rattle.mp_anytime.specs.Bounds.{AreTaken}
use Rattle.mp_anytime.specs.Told.{bounded_by}
use Rattle.mp_anytime.proofs.residue_found.ResidueFound.take_along.Given as goal

abbrev pub invariant-loop-row : goal.invariant-loop-row
invariant-loop-row l = record {
  within : l.row ≤ l.end;
  taken : AreTaken l.narrow.plan (is_pair_from l.offset 0 l.row)
      (bounded_by l.narrow.plan l.initial.self) (bounded_by l.narrow.plan l.self);
}

abbrev pub decreases-loop-row : goal.decreases-loop-row
decreases-loop-row l = l.end - l.row
