use Rattle.std.proofs.Common.{[], get_or, ◌∙◌, sym, subst, arith}
use Rattle.std.proofs.lemmas.List.{length-set}
use Rattle.mp_multi.specs.Skips.{IsCoarseOf, IsSummedOf}
use Rattle.mp_multi.proofs.ChannelLemmas.{set_next}
use Rattle.mp_multi.proofs.SummedLemmas.{coarse_is}
use Rattle.mp_multi.proofs.summed.coarse_of.Goals as goal

pub loop-c-preserved : goal.loop-c-preserved
loop-c-preserved c =
    let ch = c.args.plan.now.channels in
    let units = c.args.units.now in
    let before = c.loop-c.invariant in
    record {
      count = length-set _ _ _ ∙ before.count;
      each = λ q past lt. set_next (λ k s. IsCoarseOf (get_or ch.list.now k []) ch.m units s) past c.loop-c.list.items
          c.loop-c.c c.coarse-in-loop-c.result (omega (arith, before.count, c.loop-c-test.true))
          (λ p below. before.each p past below)
          (coarse_is (get_or ch.list.now c.loop-c.c []) ch.m units c.index-sums-c.result c.coarse-in-loop-c.result
          (subst (IsSummedOf (get_or ch.list.now c.loop-c.c []) ch.m units)
          (sym c.index-sums-c.is)
          (c.requires.sums.each c.loop-c.c c.index-sums-c.result (omega (arith, c.loop-c-test.true))))
          c.coarse-in-loop-c.ensures.plan
          c.coarse-in-loop-c.ensures.units) q lt;
    }
