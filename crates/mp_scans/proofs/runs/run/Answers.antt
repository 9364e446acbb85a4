use Rattle.std.proofs.Common.{◌+◌, ◌-◌, refl, arith}
use Rattle.mp_scans.proofs.RunLemmas.{residue_lanes, part_lanes, passed_residues, residues_as, above_none, above_more}
use Rattle.mp_scans.proofs.runs.run.Goals as goal

pub loop-q-init : goal.loop-q-init
loop-q-init c = record {
  residues = passed_residues _ _ _ _ c.requires.residues;
  above = above_none _ _ _ _;
}

pub is_within-requires-clause-residues : goal.is_within-requires-clause-residues
is_within-requires-clause-residues c = residue_lanes _ _ _ _ c.loop-q.invariant.residues

pub is_within-requires-clause-columns : goal.is_within-requires-clause-columns
is_within-requires-clause-columns c =
    let strip = c.args.strip.now in
    let place = c.loop-q.q + strip.offset in
    part_lanes _ place (place + 32 - place) (omega arith) (omega (arith, strip.columns, strip.block.few_columns))
    (λ t lt. c.requires.fit (place + t) (omega (arith, lt, strip.columns)))

pub loop-q-preserved : goal.loop-q-preserved
loop-q-preserved c =
    let q = c.loop-q.q in
    let o = c.args.strip.now.offset in
    record {
      residues = residues_as c.args.strip.now.block (q + 1) (q + 1) (q + o + 1) (q + 1 + o) _ refl (omega arith)
          (passed_residues _ _ _ _ c.advance.ensures);
      above = above_more c.args.strip.now _ _ c.args.from q (q + o + 32 - (q + o)) _ (omega arith)
          c.loop-q.invariant.above c.loop-q.invariant.residues (c.is_within.ensures c.if-is_within.false);
    }
