use Rattle.std.proofs.Common.{◌∙◌, ◌<◌, length, arith, refl}
use Rattle.std.proofs.lemmas.List.{length-set}
use Rattle.mp_skips.specs.declared.sums.TheConstants.{NO_NEED}
use Rattle.mp_skips.proofs.FillLemmas.{small_up_next, small_up_all}
use Rattle.mp_skips.proofs.NeedLemmas.{lowered_next}
use Rattle.mp_skips.proofs.needs.lower.Goals as goal

pub loop-g-init : goal.loop-g-init
loop-g-init c = record { small = λ k lt. absurd (omega arith); same = λ k _. refl; places = refl }

pub loop-g-preserved : goal.loop-g-preserved
loop-g-preserved c =
    let before = c.loop-g.invariant in
    let there : c.loop-g.g < length c.loop-g.needs = omega (arith, before.places) in
    record {
      small = small_up_next c.loop-g.needs c.loop-g.g c.min.result NO_NEED before.small
          (omega (arith, c.min.ensures)) there;
      same = lowered_next c.loop-g.needs c.args.needs.now c.loop-g.g c.min.result before.same
          (λ lt. omega (arith, c.min.ensures, lt)) there;
      places = length-set c.loop-g.needs c.loop-g.g c.min.result ∙ before.places;
    }

pub returns-clause-small : goal.returns-clause-small
returns-clause-small c =
    small_up_all c.loop-g.needs c.loop-g.g NO_NEED c.loop-g.invariant.small
    (omega (arith, c.loop-g.invariant.places, c.loop-g-test.false))
