use Rattle.std.proofs.Common.{map, to_z, w32}
use Rattle.mp_scans.specs.Blocks.{AreResiduesOf, AreAbove}
use Rattle.mp_scans.proofs.runs.run.Given as goal

abbrev pub invariant-loop-q : goal.invariant-loop-q
invariant-loop-q l = record {
  residues : AreResiduesOf l.strip l.q (map (to_z w32) l.next);
  above : AreAbove l.strip l.known.rows l.known.columns l.from l.q;
}
