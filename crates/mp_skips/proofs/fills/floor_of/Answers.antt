use Rattle.std.proofs.Common.{arith}
use Rattle.mp_skips.proofs.FillLemmas.{is_floor_by, floor_small_by}
use Rattle.mp_skips.proofs.fills.floor_of.Goals as goal

pub overflow_cast-result : goal.overflow_cast-result
overflow_cast-result c =
    omega (arith, floor_small_by c.args.unit c.from.result c.args.number c.from.ensures c.requires.fits c.requires.some)

pub returns-clause-floor : goal.returns-clause-floor
returns-clause-floor c = is_floor_by c.args.unit c.from.result c.args.number c.from.ensures c.requires.some

pub returns-clause-small : goal.returns-clause-small
returns-clause-small c =
    floor_small_by c.args.unit c.from.result c.args.number c.from.ensures c.requires.fits c.requires.some
