use Rattle.std.proofs.Common.{[], get_or, inl, inr, sym, subst, arith}
use Rattle.std.proofs.lemmas.Bool.{cases_eq}
use Rattle.std.proofs.lemmas.Option.{get_or_from_slice_get}
use Rattle.mp_sums.specs.Ranges.{AreSamplesWithin}
use Rattle.mp_skips.proofs.PartLemmas.{within_wider}
use Rattle.mp_multi.proofs.summed.range_of.Goals as goal

pub loop-c-preserved : goal.loop-c-preserved
loop-c-preserved c = λ q lt.
    let range = c.with_samples-range.result in
    elim (cases_eq q c.loop-c.c) [
      | inl e ↦ subst (λ k. AreSamplesWithin range (get_or c.args.channels.now k [])) (sym e)
          (subst (AreSamplesWithin range)
          (sym (get_or_from_slice_get c.args.channels.now c.loop-c.c _ [] c.series-in-loop-c.ensures))
          c.with_samples-range.ensures.samples)
      | inr other ↦ within_wider range c.loop-c.range (get_or c.args.channels.now q [])
          c.with_samples-range.ensures.wider
          (c.loop-c.invariant q (omega (arith, lt, other)))
    ]
