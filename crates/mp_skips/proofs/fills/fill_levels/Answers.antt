use Rattle.std.proofs.Common.{◌∙◌, ◌<◌, length, arith, refl}
use Rattle.std.proofs.lemmas.List.{length-set}
use Rattle.mp_defs.specs.Series.{series_of}
use Rattle.mp_skips.specs.declared.sums.TheConstants.{MOST_GRAINS}
use Rattle.mp_skips.proofs.FillLemmas.{levels_next, levels_all, small_next, small_all}
use Rattle.mp_skips.proofs.fills.fill_levels.Goals as goal

pub loop-p-init : goal.loop-p-init
loop-p-init c = record {
  levels = λ k lt. absurd (omega arith);
  small = λ k lt. absurd (omega arith);
  places = refl;
}

pub floor_of-requires-clause-fits : goal.floor_of-requires-clause-fits
floor_of-requires-clause-fits c =
    omega (arith, c.level_at.ensures, c.requires.levels.each c.loop-p.p, c.requires.range)

pub loop-p-preserved : goal.loop-p-preserved
loop-p-preserved c =
    let before = c.loop-p.invariant in
    let p = c.loop-p.p in
    let there : p < length c.loop-p.levels = omega (arith, before.places) in
    record {
      levels = levels_next c.args.low c.args.step (series_of c.args.samples.now) c.loop-p.levels p c.level_at.result
          c.floor_of.result before.levels c.level_at.ensures c.floor_of.ensures.floor there;
      small = small_next c.loop-p.levels p c.floor_of.result MOST_GRAINS before.small c.floor_of.ensures.small there;
      places = length-set c.loop-p.levels p c.floor_of.result ∙ before.places;
    }

pub returns-clause-levels : goal.returns-clause-levels
returns-clause-levels c =
    levels_all c.args.low c.args.step c.args.samples.now c.loop-p.levels c.loop-p.p c.requires.some
    c.loop-p.invariant.levels
    (omega (arith, c.loop-p.invariant.places, c.loop-p-test.false))
    (omega (arith, c.requires.places, c.loop-p.invariant.places))

pub returns-clause-small : goal.returns-clause-small
returns-clause-small c =
    small_all c.loop-p.levels c.loop-p.p MOST_GRAINS c.loop-p.invariant.small
    (omega (arith, c.loop-p.invariant.places, c.loop-p-test.false)) (omega arith)
