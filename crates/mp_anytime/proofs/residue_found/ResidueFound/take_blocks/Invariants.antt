use Rattle.std.proofs.Common.{◌≡◌, ◌+◌, ◌-◌, ◌≤◌}
use Rattle.mp_sums.specs.Residues.{residue}
use Rattle.mp_anytime.specs.Scanning.{is_pair_from}
use Rattle.mp_anytime.specs.Rounded.{core_in}
use Rattle.mp_anytime.specs.Bounds.{AreTaken}
use Rattle.mp_anytime.specs.Told.{bounded_by}
use Rattle.mp_anytime.proofs.residue_found.ResidueFound.take_blocks.Given as goal

abbrev pub invariant-loop-near : goal.invariant-loop-near
invariant-loop-near l = record {
  behind : l.row ≤ l.near.row;
  within : l.near.row ≤ l.end;
  residue : l.near.row + 32 ≤ l.end → l.near.residue ≡ residue
      (core_in l.narrow.plan l.near.row (l.near.row + l.offset));
  taken : AreTaken l.narrow.plan (is_pair_from l.offset l.row l.near.row)
      (bounded_by l.narrow.plan l.initial.self) (bounded_by l.narrow.plan l.self);
}

abbrev pub decreases-loop-near : goal.decreases-loop-near
decreases-loop-near l = l.end - l.near.row
