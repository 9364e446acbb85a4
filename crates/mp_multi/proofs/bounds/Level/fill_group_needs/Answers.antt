use Rattle.std.proofs.Common.{◌+◌, ◌*◌, ◌≤◌, subst, ◌∙◌, arith}
use Rattle.std.proofs.lemmas.List.{length-set}
use Rattle.mp_skips.specs.declared.sums.TheConstants.{NO_NEED}
use Rattle.mp_multi.specs.Skips.{IsNeedOfAll}
use Rattle.mp_multi.proofs.NeedLemmas.{group_more}
use Rattle.mp_multi.proofs.bounds.Level.fill_group_needs.Goals as goal

pub loop-g-preserved : goal.loop-g-preserved
loop-g-preserved c =
    let level = c.args.self.now in
    let before = c.loop-g.invariant in
    let there = c.loop-g-test.true in
    record {
      places = length-set _ _ _ ∙ before.places;
      each = group_more (λ k n. IsNeedOfAll level.plan level.units c.args.into.now.items c.args.first
          (8 * (c.args.group + k)) (8 + 8 * level.units.eights) n) c.loop-g.g c.loop-g.needs c.need_of_all.result
          (omega (arith, there, before.places)) before.each
          (subst (λ n. IsNeedOfAll level.plan level.units c.args.into.now.items c.args.first
          (8 * (c.args.group + c.loop-g.g)) n c.need_of_all.result) (omega (arith, c.height.ensures))
          c.need_of_all.ensures.need);
      small = group_more (λ _ n. n ≤ NO_NEED) c.loop-g.g c.loop-g.needs c.need_of_all.result
          (omega (arith, there, before.places)) before.small c.need_of_all.ensures.small;
    }
