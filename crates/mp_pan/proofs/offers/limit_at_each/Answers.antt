use Rattle.std.proofs.Common.{◌+◌}
use Rattle.mp_defs.specs.Series.{series_of}
use Rattle.mp_pan.specs.Longer.{distance_free, no_nearer}
use Rattle.mp_pan.proofs.Reading.{beyond_more}
use Rattle.mp_pan.proofs.offers.limit_at_each.Goals as goal

pub returns : goal.returns
returns c index dist le beyond is k more less found =
    let lengths = c.args.lengths.now in
    let a = series_of lengths.samples.now in
    c.widest.ensures k index more
    (c.reach-reach.ensures.free k less (distance_free (lengths.least + k) a c.args.window a index more found))
    (c.limit_of.ensures index more le (beyond_more c.limit_of.result dist more
    (no_nearer lengths.least k a c.args.window index dist more is found) beyond))
