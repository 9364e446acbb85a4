use Rattle.std.proofs.Common.{◌∙◌, arith, length-set, sym}
use Rattle.std.proofs.lemmas.List.{ext_get_or}
use Rattle.mp_anytime.proofs.SlotLemmas.{copied_starts}
use Rattle.mp_anytime.proofs.residue_sides.copy_starts.Goals as goal

pub loop-place-preserved : goal.loop-place-preserved
loop-place-preserved c = record {
  places = length-set c.loop-place.starts c.loop-place.place _ ∙ c.loop-place.invariant.places;
  done = λ q lt. copied_starts c.loop-place.place c.loop-place.starts c.args.others.now
      (omega (arith, c.loop-place.invariant.places, c.loop-place-test.true, c.loop-place.auto.place-end))
      c.loop-place.invariant.done q lt;
}

pub returns : goal.returns
returns c =
    ext_get_or 0 c.loop-place.starts c.args.others.now (c.loop-place.invariant.places ∙ sym c.requires)
    (λ q lt. c.loop-place.invariant.done q
    (omega (
      arith,
      lt,
      c.loop-place.invariant.places,
      c.loop-place-test.false,
      c.loop-place.auto.place-end,
    )))
