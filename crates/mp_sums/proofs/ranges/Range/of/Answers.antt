use Rattle.std.proofs.Common.{pos, arith}
use Rattle.std.proofs.lemmas.Int.{ints}
use Rattle.mp_sums.proofs.ranges.Range.of.Goals as goal

pub returns-in-Some-clause-least : goal.returns-in-Some-clause-least
returns-in-Some-clause-least c = λ range some within.
    let there = c.in-Some.ensures.item.3.1 (pos 0) in
    c.with_numbers.ensures.least range (
      omega (arith, ints, c.at.ensures.least, there, (within 0 some).0),
      omega (arith, ints, c.at.ensures.greatest, there, (within 0 some).1),
    ) within
