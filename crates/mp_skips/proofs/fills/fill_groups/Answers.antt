use Rattle.std.proofs.Common.{◌∙◌, ◌*◌, ◌+◌, ◌<◌, ◌≤◌, length, subst, arith, refl}
use Rattle.std.proofs.lemmas.List.{length-set}
use Rattle.mp_defs.specs.Series.{series_of}
use Rattle.mp_skips.specs.Sums.{AreGroups}
use Rattle.mp_skips.specs.declared.sums.TheConstants.{MOST_GRAINS}
use Rattle.mp_skips.proofs.FillLemmas.{is_group, group_next, small_up_next, small_up_all}
use Rattle.mp_skips.proofs.fills.fill_groups.Goals as goal

pub loop-g-init : goal.loop-g-init
loop-g-init c = record {
  groups = λ low s grain samples _ _. record { each = λ g lt. absurd (omega arith) };
  small = λ k lt. absurd (omega arith);
  places = refl;
  same = refl;
}

pub loop-g-preserved : goal.loop-g-preserved
loop-g-preserved c =
    let before = c.loop-g.invariant in
    let g = c.loop-g.g in
    let there : g < length c.loop-g.least = omega (arith, before.places) in
    let beside : g < length c.loop-g.greatest = omega (arith, before.places, before.same, c.requires.same) in
    let room : 8 * g + 8 ≤ length c.args.floors.now = omega (arith, before.places, c.requires.places) in
    record {
      groups = λ low s grain samples slack floors. group_next low s grain (series_of samples) c.loop-g.least
          c.loop-g.greatest g _ _ (before.groups low s grain samples slack floors)
          (is_group low s grain (series_of samples) c.args.floors.now c.args.slack g c.least_of-lower.result
          c.greatest_of-upper.result _ _ c.saturating_sub.ensures refl slack c.requires.slack floors room
          c.least_of-lower.ensures c.greatest_of-upper.ensures.greatest)
          there beside;
      small = small_up_next c.loop-g.greatest g _ MOST_GRAINS before.small
          (omega (arith, c.greatest_of-upper.ensures.small, c.requires.slack)) beside;
      places = length-set c.loop-g.least g _ ∙ before.places;
      same = length-set c.loop-g.greatest g _ ∙ before.same;
    }

pub returns-clause-small : goal.returns-clause-small
returns-clause-small c =
    small_up_all c.loop-g.greatest c.loop-g.g MOST_GRAINS c.loop-g.invariant.small
    (omega (arith, c.loop-g.invariant.places, c.loop-g.invariant.same, c.requires.same, c.loop-g-test.false))

pub returns-clause-groups : goal.returns-clause-groups
returns-clause-groups c = λ low s grain samples slack floors.
    subst (AreGroups low s grain (series_of samples) c.loop-g.least c.loop-g.greatest)
    (omega (arith, c.loop-g-test.false, c.loop-g.auto.g-end, c.loop-g.invariant.places))
    (c.loop-g.invariant.groups low s grain samples slack floors)
