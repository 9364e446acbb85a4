use Rattle.std.proofs.Common.{arith}
use Rattle.mp_sums.proofs.ThresholdLemmas.{no_shift, rounded_threshold}
use Rattle.mp_sums.proofs.roundings.Rounding.threshold.Goals as goal

pub returns-then-self-eq0 : goal.returns-then-self-eq0
returns-then-self-eq0 c = λ limit e.
    no_shift c.args.self.now.m c.args.self.now.shift limit c.args.units c.if-self-eq0.true e

pub returns-else-self-eq0 : goal.returns-else-self-eq0
returns-else-self-eq0 c = λ limit e.
    rounded_threshold c.args.self.now.m c.args.self.now.shift limit c.args.units c.widened.result
    (omega (arith, c.if-self-eq0.false)) e c.widened.ensures
