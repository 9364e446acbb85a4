use Rattle.std.proofs.Common.{arith}
use Rattle.mp_skips.proofs.BlockLemmas.{reached, tested}
use Rattle.mp_skips.proofs.sums.Coarse.is_quiet.Goals as goal

pub returns-clause-apart : goal.returns-clause-apart
returns-clause-apart c = λ is.
    reached c.args.self.now c.args.row c.args.group c.args.need c.requires.row c.requires.group
    (omega (arith, tested c.args.need c.square_sum.result is, c.square_sum.ensures.sum))

pub returns-clause-some : goal.returns-clause-some
returns-clause-some c = λ is.
    omega (arith, tested c.args.need c.square_sum.result is, c.square_sum.ensures.small)
