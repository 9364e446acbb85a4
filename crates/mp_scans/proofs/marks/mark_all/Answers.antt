use Rattle.std.proofs.Common.{◌≡◌, ◌∙◌, arith, refl, true, false}
use Rattle.std.proofs.lemmas.List.{length-set}
use Rattle.mp_scans.proofs.FillLemmas.{set_next}
use Rattle.mp_scans.proofs.marks.mark_all.Goals as goal

pub loop-k-preserved : goal.loop-k-preserved
loop-k-preserved c = record {
  places = length-set _ _ _ ∙ c.loop-k.invariant.places;
  done = set_next (λ q mark. mark ≡ true) false c.loop-k.marks c.loop-k.k _ (omega arith) c.loop-k.invariant.done refl;
}
