use Rattle.std.proofs.Common.{rules}
use Rattle.mp_motifs.proofs.Listed.{there_within}
use Rattle.mp_motifs.proofs.matching.given_window.Goals as goal

pub offset_bounds-dist-start : goal.offset_bounds-dist-start
offset_bounds-dist-start c =
    let lt = there_within c.args.dist.now c.in_ok-start.start (c.requires c.in_ok-start.start c.in_ok-start.was) in
    search rules

pub bounds-dist-start : goal.bounds-dist-start
bounds-dist-start c = there_within c.args.dist.now c.in_ok-start.start
    (c.requires c.in_ok-start.start c.in_ok-start.was)
