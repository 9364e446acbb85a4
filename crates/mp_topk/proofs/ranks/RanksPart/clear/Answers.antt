use Rattle.std.proofs.Common.{ap, sym}
use Rattle.mp_topk.proofs.Places.{all_none_ranked, are_values, none_value_of}
use Rattle.mp_topk.proofs.ranks.RanksPart.clear.Goals as goal

pub invariant_of-self : goal.invariant_of-self
invariant_of-self g c = (
  c.self.invariant.0,
  all_none_ranked g.row.K _ c.clear_places.new.places.items c.clear_places.ensures.items,
)

pub returns-clause-value : goal.returns-clause-value
returns-clause-value g c = none_value_of g.row.K c.self.inside.places.items c.clear_places.new.places.items
    c.args.self.now.lists (sym (ap (λ r. r.lists) c.self.view_is)) c.clear_places.ensures.items

pub returns-clause-is_value : goal.returns-clause-is_value
returns-clause-is_value g c = are_values g.row.K c.clear_places.new.places.items
    (all_none_ranked g.row.K _ c.clear_places.new.places.items c.clear_places.ensures.items)
