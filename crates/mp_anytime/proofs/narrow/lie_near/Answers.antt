use Rattle.mp_anytime.proofs.NarrowLemmas.{range_is_narrow}
use Rattle.mp_anytime.proofs.narrow.lie_near.Goals as goal

pub returns-in-Some : goal.returns-in-Some
returns-in-Some c = λ is.
    range_is_narrow c.with_samples.result c.args.samples.now c.with_samples.ensures.samples
    (c.sums_fit.ensures.fit.0 is)
