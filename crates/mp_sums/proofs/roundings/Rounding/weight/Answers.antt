use Rattle.std.proofs.Common.{arith, refl}
use Rattle.mp_sums.proofs.ThresholdLemmas.{weight_is, weight_small}
use Rattle.mp_sums.proofs.roundings.Rounding.weight.Goals as goal

pub returns-clause-weight : goal.returns-clause-weight
returns-clause-weight c =
    weight_is c.args.units c.args.units c.args.self.now.m c.from-m.result c.saturating_sub.result
    c.from-m.ensures refl c.saturating_sub.ensures

pub returns-clause-small : goal.returns-clause-small
returns-clause-small c =
    omega (
      arith,
      weight_small c.args.self.now.m c.args.units c.requires,
      weight_is c.args.units c.args.units c.args.self.now.m c.from-m.result c.saturating_sub.result
          c.from-m.ensures refl c.saturating_sub.ensures,
    )
