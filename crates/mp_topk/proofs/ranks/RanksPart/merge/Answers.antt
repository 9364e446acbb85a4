use Rattle.std.proofs.Common.{ap, sym}
use Rattle.mp_topk.proofs.Places.{are_values, merged_of, merged_long}
use Rattle.mp_topk.proofs.ranks.RanksPart.merge.Goals as goal

pub returns-clause-value : goal.returns-clause-value
returns-clause-value g c = merged_of g.row.K _ _ _ c.args.self.now.lists c.args.other.now.lists
    (sym (ap (λ r. r.lists) c.self.view_is)) (sym (ap (λ r. r.lists) c.other.view_is)) c.merge_places.ensures.lists

pub returns-clause-size : goal.returns-clause-size
returns-clause-size g c = merged_long g.row.K _ _ _ c.args.self.now.lists c.args.other.now.lists
    (sym (ap (λ r. r.lists) c.self.view_is)) (sym (ap (λ r. r.lists) c.other.view_is)) c.merge_places.ensures.lists
    c.requires

pub returns-clause-is_value : goal.returns-clause-is_value
returns-clause-is_value g c = are_values g.row.K c.merge_places.new.places.items c.merge_places.ensures.ranked
