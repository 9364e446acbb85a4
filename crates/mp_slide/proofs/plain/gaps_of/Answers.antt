use Rattle.std.proofs.Common.{◌≡◌, ◌∙◌, ap, subst, arith, length}
use Rattle.std.proofs.lemmas.List.{get_or_default}
use Rattle.mp_nums.specs.declared.samples.Sample.TheVariants.{Missing}
use Rattle.mp_defs.specs.Series.{reading_of}
use Rattle.mp_slide.specs.Plain.{gap}
use Rattle.mp_slide.proofs.PlainNumbers.{AreCounted, counted_none, counted_more, counted_all}
use Rattle.mp_slide.proofs.plain.gaps_of.Goals as goal

pub loop-sample-init : goal.loop-sample-init
loop-sample-init c = counted_none _ _ c.in_ok-gaps.ensures.items

pub loop-sample-preserved : goal.loop-sample-preserved
loop-sample-preserved c =
    let there = c.sample-item.is
    ∙ get_or_default c.args.samples.now c.loop-sample.sample-index c.sample-item.result Missing (omega arith) in
    counted_more _ _ _ c.gap-count.result _ _ _ c.in_ok-push.ensures.items
    (c.gap-count.ensures ∙ ap (λ sample. gap (reading_of sample)) there) (omega arith) c.loop-sample.invariant

pub returns : goal.returns
returns c =
    let all : c.loop-sample.sample-index ≡ length c.args.samples.now = omega arith in
    counted_all c.args.samples.now _ _ _ c.in_ok-push-2.ensures.items
    (subst (λ i. AreCounted c.args.samples.now i c.loop-sample.count c.loop-sample.gaps.items) all
    c.loop-sample.invariant)
