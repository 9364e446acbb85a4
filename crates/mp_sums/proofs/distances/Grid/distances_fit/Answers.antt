use Rattle.std.proofs.Common.{◌≡◌, ◌+◌, ◌^◌, ◌<◌, ◌∙◌, ap, arith, sym}
use Rattle.std.proofs.lemmas.Int.{ints}
use Rattle.mp_defs.specs.Series.{reading_of, series_of}
use Rattle.mp_defs.specs.SeriesLaws.{series_are_of_samples}
use Rattle.mp_sums.specs.Sums.{filled, numbers_of, square_sum}
use Rattle.mp_sums.specs.Ranges.{IsInRange, Reaches, SumsFit}
use Rattle.mp_sums.specs.SumLaws.{distances_are_sums}
use Rattle.mp_sums.specs.RangeLaws.{ranges_bound_sums}
use Rattle.mp_sums.proofs.RangeLemmas.{narrower_fits}
use Rattle.mp_sums.proofs.distances.Grid.distances_fit.Goals as goal

pub returns-clause-fit : goal.returns-clause-fit
returns-clause-fit c = λ is.
    let grid = c.args.self.now in
    let x = numbers_of (series_of grid.rows.now) in
    let y = numbers_of (series_of grid.columns.now) in
    let all = c.with_samples-range.result in
    let wider = c.with_samples-range.ensures.wider in
    let fits : SumsFit grid.m c.args.bits all = c.sums_fit.ensures.fit.0 is in
    record {
      each = λ row column d row_within column_within there.
          let sum : square_sum grid.m x row y column < 2 ^ c.args.bits =
          ranges_bound_sums.sums grid.m grid.m c.args.bits all x row y column (omega arith) fits
          (λ k lt. let here = c.with_samples.ensures.samples (row + k) (omega (arith, row_within, lt)) in
          (omega (arith, ints, here.0, wider.0), omega (arith, ints, here.1, wider.1)))
          (λ k lt. c.with_samples-range.ensures.samples (column + k) (omega (arith, column_within, lt))) in
          omega (
            arith,
            sum,
            distances_are_sums grid.m (series_of grid.rows.now) row (series_of grid.columns.now) column d
                there,
          );
    }

pub returns-clause-range : goal.returns-clause-range
returns-clause-range c = λ range some rows columns fits.
    let grid = c.args.self.now in
    let all = c.with_samples-range.result in
    let first : c.number_of-first.result ≡ numbers_of (series_of grid.rows.now) 0 =
    c.number_of-first.ensures ∙ ap (λ s. filled (reading_of s)) c.sample_at.ensures
    ∙ ap filled (sym (series_are_of_samples.numbers grid.rows.now 0)) in
    let start : Reaches range c.at.result = (
      omega (arith, ints, c.at.ensures.least, first, (rows 0 some).0),
      omega (arith, ints, c.at.ensures.greatest, first, (rows 0 some).1),
    ) in
    let there = c.with_samples.ensures.samples 0 some in
    let wider = c.with_samples-range.ensures.wider in
    let inside : IsInRange all (numbers_of (series_of grid.rows.now) 0) = (
      omega (arith, ints, there.0, wider.0),
      omega (arith, ints, there.1, wider.1),
    ) in
    c.sums_fit.ensures.fit.1 (narrower_fits grid.m c.args.bits range all (numbers_of (series_of grid.rows.now) 0)
    (c.with_samples-range.ensures.least range (c.with_samples.ensures.least range start rows) columns) inside fits)
