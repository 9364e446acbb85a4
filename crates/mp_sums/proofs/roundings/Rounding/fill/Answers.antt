use Rattle.std.proofs.Common.{◌+◌, ◌∙◌, arith, rules, sym, w32, FitsSigned}
use Rattle.std.specs.Int.{int_wrap}
use Rattle.std.proofs.lemmas.Int.{to_z-of_z}
use Rattle.std.proofs.lemmas.List.{length-set, get_or_default, get_or_past}
use Rattle.mp_nums.specs.declared.samples.Sample.TheVariants.{Missing}
use Rattle.mp_defs.specs.Series.{series_of}
use Rattle.mp_sums.specs.Sums.{numbers_of}
use Rattle.mp_sums.specs.Rounding.{rounded}
use Rattle.mp_sums.proofs.FillLemmas.{set_next, rounded_is}
use Rattle.mp_sums.proofs.roundings.Rounding.fill.Goals as goal

pub loop-k-preserved : goal.loop-k-preserved
loop-k-preserved c =
    let samples = c.args.samples.now in
    let place = c.args.start + c.loop-k.k in
    let x = rounded c.args.self.now.shift (numbers_of (series_of samples)) in
    let fits : FitsSigned w32 c.round.result = search rules in
    record {
      places = length-set _ _ _ ∙ c.loop-k.invariant.places;
      done = set_next c.loop-k.numbers c.loop-k.k _ (λ q. int_wrap w32 (x (c.args.start + q))) (omega arith)
          c.loop-k.invariant.done
          (to_z-of_z w32 c.round.result fits
          ∙ rounded_is samples place c.args.self.now.shift c.index-samples-start.result c.round.result
          (c.index-samples-start.is ∙ get_or_default samples place c.index-samples-start.result Missing (omega arith))
          c.round.ensures);
    }

pub loop-k-2-preserved : goal.loop-k-2-preserved
loop-k-2-preserved c =
    let samples = c.args.samples.now in
    let place = c.args.start + c.loop-k-2.k in
    let x = rounded c.args.self.now.shift (numbers_of (series_of samples)) in
    let fits : FitsSigned w32 c.round-in-loop-k-2.result = search rules in
    record {
      places = length-set _ _ _ ∙ c.loop-k-2.invariant.places;
      done = set_next c.loop-k-2.numbers c.loop-k-2.k _ (λ q. int_wrap w32 (x (c.args.start + q))) (omega arith)
          c.loop-k-2.invariant.done
          (to_z-of_z w32 c.round-in-loop-k-2.result fits
          ∙ rounded_is samples place c.args.self.now.shift Missing c.round-in-loop-k-2.result
          (sym (get_or_past samples place Missing (omega arith))) c.round-in-loop-k-2.ensures);
    }

pub returns-clause-numbers : goal.returns-clause-numbers
returns-clause-numbers c = record {
  each = λ k lt. c.loop-k-2.invariant.done k (omega (
    arith,
    lt,
    c.loop-k-2.auto.k-end,
    c.loop-k-2-test.false,
    c.loop-k-2.invariant.places,
  ));
}
