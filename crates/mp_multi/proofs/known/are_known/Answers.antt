use Rattle.std.proofs.Common.{◌∙◌, sym, arith}
use Rattle.mp_multi.proofs.BoundLaws.{channel_distance}
use Rattle.mp_multi.proofs.known.are_known.Goals as goal

pub distance_of-requires-clause-dist : goal.distance_of-requires-clause-dist
distance_of-requires-clause-dist g c = λ d there.
    let level = c.args.level.now in
    c.requires.dists c.loop-c.c d (omega arith)
    (sym (channel_distance level.plan level.units _ c.loop-c.c c.args.row c.args.column
    (level.are.each c.loop-c.c _ (omega (arith, c.requires.channels)))) ∙ there)
