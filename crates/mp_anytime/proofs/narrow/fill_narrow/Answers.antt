use Rattle.std.proofs.Common.{◌∙◌, ap, arith, length-set, rules, w16, w64, FitsSigned}
use Rattle.std.specs.Int.{int_wrap}
use Rattle.std.proofs.lemmas.Int.{to_z-of_z}
use Rattle.mp_defs.specs.Series.{series_of}
use Rattle.mp_sums.specs.Sums.{numbers_of}
use Rattle.mp_anytime.proofs.Moves.{set_next}
use Rattle.mp_anytime.proofs.NarrowLemmas.{sample_read}
use Rattle.mp_anytime.proofs.narrow.fill_narrow.Goals as goal

pub loop-k-preserved : goal.loop-k-preserved
loop-k-preserved c =
    let before = c.loop-k.invariant in
    let k = c.loop-k.k in
    let fits : FitsSigned w16 c.lower_bits.result = search rules in
    let got : FitsSigned w64 c.get.result = search rules in
    record {
      places = length-set c.loop-k.numbers k _ ∙ before.places;
      done = set_next c.loop-k.numbers k _ (λ q. int_wrap w16 (numbers_of (series_of c.args.samples.now) q))
          (omega (arith, c.requires, c.loop-k-test.true, c.loop-k.auto.k-end, before.places)) before.done
          (to_z-of_z w16 c.lower_bits.result fits
          ∙ sample_read c.args.samples.now k c.index-samples-k.result c.number_of.result c.lower_bits.result
          (omega (arith, c.loop-k-test.true, c.loop-k.auto.k-end)) c.index-samples-k.is c.number_of.ensures
          (c.lower_bits.ensures ∙ ap (int_wrap w16) (to_z-of_z w64 c.get.result got ∙ c.get.ensures.value)));
    }

pub returns-clause-numbers : goal.returns-clause-numbers
returns-clause-numbers c = λ k lt. c.loop-k.invariant.done k
    (omega (arith, lt, c.loop-k-test.false, c.loop-k.auto.k-end))
