use Rattle.std.proofs.Common.{◌∙◌, ◌<◌, length, arith, refl}
use Rattle.std.proofs.lemmas.List.{length-set}
use Rattle.mp_defs.specs.Series.{series_of}
use Rattle.mp_skips.specs.declared.sums.TheConstants.{MOST_GRAINS}
use Rattle.mp_skips.proofs.FillLemmas.{sum_from_small, floor_next, small_next, small_all}
use Rattle.mp_skips.proofs.fills.fill_floors.Goals as goal

pub loop-p-init : goal.loop-p-init
loop-p-init c = record {
  sum = c.first_sum-sum.ensures;
  floors = record { each = λ p lt. absurd (omega arith) };
  small = λ k lt. absurd (omega arith);
  places = refl;
}

pub floor_of-requires-clause-fits : goal.floor_of-requires-clause-fits
floor_of-requires-clause-fits c =
    omega (
      arith,
      c.loop-p.invariant.sum,
      sum_from_small c.args.low c.args.range (series_of c.args.samples.now) c.args.count c.loop-p.p c.requires.levels,
      c.requires.fits,
    )

pub loop-p-preserved : goal.loop-p-preserved
loop-p-preserved c =
    let before = c.loop-p.invariant in
    let p = c.loop-p.p in
    let there : p < length c.loop-p.floors = omega (arith, before.places) in
    record {
      sum = c.next_sum-sum.ensures;
      floors = floor_next c.args.low c.args.count c.args.grain (series_of c.args.samples.now) c.loop-p.floors p
          c.loop-p.sum c.floor_of.result before.floors before.sum c.floor_of.ensures.floor there;
      small = small_next c.loop-p.floors p c.floor_of.result MOST_GRAINS before.small c.floor_of.ensures.small there;
      places = length-set c.loop-p.floors p c.floor_of.result ∙ before.places;
    }

pub returns-clause-small : goal.returns-clause-small
returns-clause-small c =
    small_all c.loop-p.floors c.loop-p.p MOST_GRAINS c.loop-p.invariant.small
    (omega (arith, c.loop-p.invariant.places, c.loop-p-test.false)) (omega arith)
