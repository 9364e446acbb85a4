use Rattle.std.proofs.Common.{◌≡◌, arith, sym, below_more, subst}
use Rattle.std.proofs.lemmas.Int.{ints}
use Rattle.mp_defs.specs.Series.{series_of}
use Rattle.mp_sums.specs.Sums.{numbers_of}
use Rattle.mp_sums.specs.Ranges.{IsInRange}
use Rattle.mp_sums.proofs.FillLemmas.{number_there}
use Rattle.mp_sums.proofs.ranges.Range.with_samples.Goals as goal

pub loop-sample-preserved : goal.loop-sample-preserved
loop-sample-preserved c =
    let around = c.around-range.ensures in
    let at = c.loop-sample.sample-index in
    let samples = c.args.samples.now in
    let same : c.number_of.result ≡ numbers_of (series_of samples) at =
    number_there samples at c.number_of.result c.sample-item.result (omega arith) c.sample-item.is
    c.number_of.ensures in
    let before = c.loop-sample.invariant in
    record {
      samples = below_more _ _
          (λ k h. let within = before.samples k h in (omega (arith, ints), omega (arith, ints)))
          (subst (IsInRange c.around-range.result) same around.number);
      wider = (omega (arith, ints), omega (arith, ints));
      least = λ range reaches within.
          around.least range (before.least range reaches within)
          (subst (IsInRange range) (sym same) (within at (omega arith)));
    }
