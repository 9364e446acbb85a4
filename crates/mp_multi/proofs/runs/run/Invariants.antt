use Rattle.std.proofs.Common.{◌+◌}
use Rattle.mp_multi.specs.Blocks.{AreResiduesAt, AreAbove}
use Rattle.mp_multi.proofs.runs.run.Given as goal

abbrev pub invariant-loop-q : goal.invariant-loop-q
invariant-loop-q g l = record {
  residues : AreResiduesAt l.strip.block l.q (l.q + l.strip.offset) l.next;
  above : AreAbove l.strip l.known l.from l.q;
}
