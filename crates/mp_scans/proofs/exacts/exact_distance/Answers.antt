use Rattle.std.proofs.Common.{arith}
use Rattle.mp_sums.specs.SumLaws.{is_small}
use Rattle.mp_scans.proofs.exacts.exact_distance.Goals as goal

pub returns-clause-small : goal.returns-clause-small
returns-clause-small c = omega (arith, is_small _ _ _ _ _ _ c.sum_at-sum.ensures.sum, c.args.grid.now.short)
