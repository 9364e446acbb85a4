use Rattle.std.proofs.Common.{arith}
use Rattle.mp_topk.proofs.Places.{merge_ends}
use Rattle.mp_topk.proofs.compact_ranks.merge_each.Goals as goal

pub returns-clause-lists : goal.returns-clause-lists
returns-clause-lists g c = merge_ends g.row.K c.loop-i.i c.args.places.now c.args.others.now c.loop-i.places
    c.loop-i.invariant c.requires.count (omega (arith, c.loop-i-test.false, c.loop-i.invariant.places))
