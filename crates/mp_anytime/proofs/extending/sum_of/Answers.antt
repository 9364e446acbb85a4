use Rattle.std.proofs.Common.{◌+◌, ◌*◌, ◌≤◌, ◌∙◌, arith, length, subst, sym}
use Rattle.std.proofs.lemmas.List.{length-map}
use Rattle.mp_defs.specs.Series.{series_of}
use Rattle.mp_series.specs.Samples.{number_in, numbers_in}
use Rattle.mp_sums.specs.Ranges.{SumsFit}
use Rattle.mp_anytime.specs.Kept.{IsSumAt}
use Rattle.mp_anytime.proofs.Reading.{fewer_read, lent_long, lent_numbers, some_read}
use Rattle.mp_anytime.proofs.RowSums.{within_part}
use Rattle.mp_anytime.proofs.extending.sum_of.Goals as goal

pub sum_between-requires : goal.sum_between-requires
sum_between-requires c =
    let items = c.args.samples.now.items in
    let n = c.from.result in
    let first = lent_long items c.args.i n c.parts.result.0.now (omega (arith, c.requires.first, c.from.ensures))
    c.parts.ensures.first in
    let second = lent_long items c.args.j n c.parts.result.1.now (omega (arith, c.requires.second, c.from.ensures))
    c.parts.ensures.second in
    record { same = second ∙ sym first; few = omega (arith, first, c.from.ensures, c.requires.width) }

pub returns-else-are_close-clause-sum : goal.returns-else-are_close-clause-sum
returns-else-are_close-clause-sum c =
    let items = c.args.samples.now.items in
    let n = c.from.result in
    let long = lent_long items c.args.i n c.parts.result.0.now (omega (arith, c.requires.first, c.from.ensures))
    c.parts.ensures.first in
    subst (λ q. IsSumAt q (series_of items) c.args.i c.args.j c.sum_between.result) (long ∙ c.from.ensures)
    (c.sum_between.ensures (series_of items) c.args.i c.args.j
    (λ k lt. lent_numbers items c.args.i n k c.parts.result.0.now c.parts.ensures.first (omega (arith, lt, long)))
    (λ k lt. lent_numbers items c.args.j n k c.parts.result.1.now c.parts.ensures.second (omega (arith, lt, long))))

pub returns-else-are_close-clause-read : goal.returns-else-are_close-clause-read
returns-else-are_close-clause-read c =
    fewer_read _ _ (2 * c.from.result) (2 * c.args.m) (omega (arith, c.from.ensures))
    (some_read _ _ (2 * c.from.result) c.parts.follows.holds-at-none c.parts.ensures.reads_within)

pub near_sum-requires : goal.near_sum-requires
near_sum-requires c =
    let items = c.args.samples.now.items in
    let n = c.from.result in
    let close = c.requires.close c.if-are_close.true in
    let all = length-map items number_in in
    let row : c.args.i + n ≤ length (numbers_in items) = omega (arith, c.requires.first, c.from.ensures, all) in
    let column : c.args.j + n ≤ length (numbers_in items) = omega (arith, c.requires.second, c.from.ensures, all) in
    let first = lent_long items c.args.i n c.parts.result.0.now (omega (arith, c.requires.first, c.from.ensures))
    c.parts.ensures.first in
    let second = lent_long items c.args.j n c.parts.result.1.now (omega (arith, c.requires.second, c.from.ensures))
    c.parts.ensures.second in
    let long = first ∙ c.from.ensures in
    record {
      some = omega (arith, long, c.requires.shortest);
      same = second ∙ sym first;
      few = omega (arith, long, c.requires.width);
      near = record {
        range = close.range;
        within = within_part close.range (numbers_in items) c.args.i n c.parts.result.0.now close.within row
            c.parts.ensures.first;
        others_within = within_part close.range (numbers_in items) c.args.j n c.parts.result.1.now close.within column
            c.parts.ensures.second;
        fits = subst (λ q. SumsFit q 63 close.range) (sym long) close.fits;
      };
    }

pub returns-then-are_close-clause-sum : goal.returns-then-are_close-clause-sum
returns-then-are_close-clause-sum c =
    let items = c.args.samples.now.items in
    let n = c.from.result in
    let long = lent_long items c.args.i n c.parts.result.0.now (omega (arith, c.requires.first, c.from.ensures))
    c.parts.ensures.first in
    subst (IsSumAt c.args.m (series_of items) c.args.i c.args.j) (sym c.from-then-are_close.ensures)
    (subst (λ q. IsSumAt q (series_of items) c.args.i c.args.j c.near_sum.result) (long ∙ c.from.ensures)
    (c.near_sum.ensures (series_of items) c.args.i c.args.j
    (λ k lt. lent_numbers items c.args.i n k c.parts.result.0.now c.parts.ensures.first (omega (arith, lt, long)))
    (λ k lt. lent_numbers items c.args.j n k c.parts.result.1.now c.parts.ensures.second (omega (arith, lt, long)))))
