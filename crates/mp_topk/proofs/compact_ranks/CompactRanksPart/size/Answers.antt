use Rattle.std.proofs.Common.{ap, sym}
use Rattle.mp_topk.proofs.Whole.{whole_size, whole_values}
use Rattle.mp_topk.proofs.compact_ranks.CompactRanksPart.size.Goals as goal

pub returns-clause-size : goal.returns-clause-size
returns-clause-size g c = sym (whole_size g.row.K c.self.inside.size c.self.inside.places.items c.args.self.now.lists
    (sym (ap (λ r. r.lists) c.self.view_is)) c.self.invariant.3)

pub returns-clause-is_value : goal.returns-clause-is_value
returns-clause-is_value g c = whole_values g.row.K c.self.inside.size c.self.inside.places.items c.args.self.now.lists
    (sym (ap (λ r. r.lists) c.self.view_is)) c.self.invariant.3 c.self.invariant.1
