use Rattle.std.proofs.Common.{◌≡◌, ◌+◌, ◌*◌}
use Rattle.mp_sums.specs.Residues.{residue}
use Rattle.mp_anytime.specs.Scanning.{is_pair_from}
use Rattle.mp_anytime.specs.Rounded.{core_in}
use Rattle.mp_anytime.specs.Bounds.{AreTaken}
use Rattle.mp_anytime.proofs.found.Found.take_blocks.Given as goal

abbrev pub invariant-loop-block : goal.invariant-loop-block
invariant-loop-block l = record {
  residue : l.residue ≡ residue (core_in l.rounded.plan (32 * l.block) (32 * l.block + l.offset));
  taken : AreTaken l.rounded.plan (is_pair_from l.offset 0 (32 * l.block)) l.initial.self l.self;
}
