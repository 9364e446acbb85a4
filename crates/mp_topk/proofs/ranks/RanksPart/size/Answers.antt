use Rattle.std.proofs.Common.{ap, sym, length}
use Rattle.mp_topk.proofs.Places.{are_values_of}
use Rattle.mp_topk.proofs.ranks.RanksPart.size.Goals as goal

pub returns-clause-is_value : goal.returns-clause-is_value
returns-clause-is_value g c = are_values_of g.row.K c.self.inside.places.items c.args.self.now.lists _
    (sym (ap (λ r. r.lists) c.self.view_is)) (ap length c.as_slice.ensures) c.self.invariant.1
