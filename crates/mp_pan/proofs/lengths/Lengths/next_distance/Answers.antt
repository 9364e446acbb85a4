use Rattle.mp_defs.specs.Series.{series_of}
use Rattle.mp_pan.specs.Longer.{next_distance}
use Rattle.mp_pan.proofs.Reading.{square_is}
use Rattle.mp_pan.proofs.lengths.Lengths.next_distance.Goals as goal

pub returns-clause-next : goal.returns-clause-next
returns-clause-next c h =
    let lengths = c.args.self.now in
    next_distance lengths.least c.args.k (series_of lengths.samples.now) c.args.row c.args.column c.args.dist
    c.square_of.result _
    (square_is lengths.samples.now _ _ c.sample_at-first.result c.sample_at-second.result c.square_of.result
    c.sample_at-first.ensures c.sample_at-second.ensures c.square_of.ensures.square)
    c.longer.ensures h
