use Rattle.mp_topk.proofs.Whole.{no_value, no_value_has}
use Rattle.mp_topk.proofs.compact_ranks.CompactRanksPart.unit.Goals as goal

pub returns-clause-value : goal.returns-clause-value
returns-clause-value g c = no_value g.row.K c.args.size _ c.in_ok-with_capacity.ensures.items

pub returns-clause-is_value : goal.returns-clause-is_value
returns-clause-is_value g c = no_value_has g.row.K c.args.size _ c.in_ok-with_capacity.ensures.items
