use Rattle.mp_anytime.proofs.Reading.{lent_square, some_read}
use Rattle.mp_anytime.proofs.extending.square_between.Goals as goal

pub returns-clause-square : goal.returns-clause-square
returns-clause-square c =
    lent_square c.args.samples.now.items c.args.i c.args.j c.square.result c.parts.result.0.now c.parts.result.1.now
    c.index-first-0.result c.index-second-0.result c.requires.first c.requires.second c.parts.ensures.first
    c.parts.ensures.second c.index-first-0.is c.index-second-0.is c.square.ensures.square

pub returns-clause-read : goal.returns-clause-read
returns-clause-read c = some_read _ _ 2 c.parts.follows.holds-at-none c.parts.ensures.reads_within
