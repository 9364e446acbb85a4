use Rattle.std.proofs.Common.{◌+◌, ◌∙◌, arith, refl, negsuc}
use Rattle.std.proofs.lemmas.List.{length-set}
use Rattle.mp_sums.proofs.FillLemmas.{set_next}
use Rattle.mp_sums.proofs.StepLemmas.{residue_of_none}
use Rattle.mp_sums.proofs.rows.clear_residues.Goals as goal

pub loop-t-preserved : goal.loop-t-preserved
loop-t-preserved c = record {
  places = length-set _ _ _ ∙ c.loop-t.invariant.places;
  done = set_next c.loop-t.residues c.loop-t.t _ (λ q. negsuc 2147483646) (omega arith) c.loop-t.invariant.done refl;
}

pub returns-clause-residues : goal.returns-clause-residues
returns-clause-residues c = λ x i y j. record {
  each = λ t lt.
      c.loop-t.invariant.done t (omega (
        arith,
        lt,
        c.loop-t.auto.t-end,
        c.loop-t-test.false,
        c.loop-t.invariant.places,
      )) ∙ residue_of_none x i y (j + t);
}
