use Rattle.std.proofs.Common.{ap, sym, ◌∙◌}
use Rattle.mp_topk.specs.Ranking.{no_ranks}
use Rattle.mp_topk.proofs.Whole.{no_value, no_value_in, whole_size}
use Rattle.mp_topk.proofs.compact_ranks.CompactRanksPart.clear.Goals as goal

pub returns-clause-value : goal.returns-clause-value
returns-clause-value g c = no_value g.row.K c.self.inside.size c.clear.new.self.items c.clear.ensures.items
    ∙ ap no_ranks (sym (whole_size g.row.K c.self.inside.size c.self.inside.places.items c.args.self.now.lists
    (sym (ap (λ r. r.lists) c.self.view_is)) c.self.invariant.3))

pub returns-clause-is_value : goal.returns-clause-is_value
returns-clause-is_value g c = no_value_in g.row.K c.self.inside.size c.clear.new.self.items c.clear.ensures.items
