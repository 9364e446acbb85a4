use Rattle.std.proofs.Common.{◌+◌, ◌*◌, arith, length}
use Rattle.mp_anytime.proofs.Reading.{fewer_read}
use Rattle.mp_anytime.proofs.RowPairs.{sums_are}
use Rattle.mp_anytime.proofs.moving.move_on.Goals as goal

pub move_sums-requires-clause-some : goal.move_sums-requires-clause-some
move_sums-requires-clause-some c =
    let first = c.requires.diagonals 0 0 (omega (arith, c.requires.some)) in
    omega (arith, first.0, first.1)

pub move_covered-requires-clause-some : goal.move_covered-requires-clause-some
move_covered-requires-clause-some c =
    let first = c.requires.diagonals 0 0 (omega (arith, c.requires.some)) in
    omega (arith, first.0, first.1)

pub returns-then-are_most-clause-sums : goal.returns-then-are_most-clause-sums
returns-then-are_most-clause-sums c =
    sums_are c.args.m c.args.samples.now.items c.args.covered.now c.args.last c.args.sums.now c.move_sums.new.sums
    c.requires.diagonals c.requires.sums c.move_sums.ensures.sums

pub returns-then-are_most-clause-read : goal.returns-then-are_most-clause-read
returns-then-are_most-clause-read c =
    fewer_read _ _ (2 * c.args.last) (4 * length c.args.covered.now)
    (omega (arith, c.requires.most c.if-are_most.true)) c.move_sums.ensures.read

pub returns-else-are_most-clause-read : goal.returns-else-are_most-clause-read
returns-else-are_most-clause-read c =
    fewer_read _ _ (2 * length c.args.covered.now + 2) (4 * length c.args.covered.now)
    (omega (arith, c.requires.some)) c.move_covered.ensures.read
