use Rattle.std.proofs.Common.{◌∙◌, ap, arith, length, ℤ, List, pos}
use Rattle.std.proofs.lemmas.List.{length-set}
use Rattle.mp_sums.specs.Residues.{item}
use Rattle.mp_anytime.proofs.Greatest.{always_more, all_always}
use Rattle.mp_anytime.proofs.bounds.Bounds.clear.Goals as goal

pub loop-place-preserved : goal.loop-place-preserved
loop-place-preserved c = record {
  places = ap length c.set.ensures ∙ length-set c.loop-place.self c.loop-place.place (pos 2147483647)
      ∙ c.loop-place.invariant.places;
  done = λ q lt. ap (λ (xs : List ℤ). item xs q) c.set.ensures
      ∙ always_more c.loop-place.self c.loop-place.place c.loop-place.invariant.done
      (omega (arith, c.loop-place.invariant.places, c.loop-place-test.true, c.len-place-end.ensures)) q lt;
}

pub returns : goal.returns
returns c =
    all_always c.loop-place.self (length c.args.self.now) c.loop-place.invariant.places
    (λ q lt. c.loop-place.invariant.done q (omega (arith, lt, c.len-place-end.ensures, c.loop-place-test.false)))
