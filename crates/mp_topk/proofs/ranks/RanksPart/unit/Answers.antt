use Rattle.std.proofs.Common.{arith, ◌∙◌}
use Rattle.mp_topk.proofs.Places.{all_none_ranked, none_has, none_value}
use Rattle.mp_topk.proofs.ranks.RanksPart.unit.Goals as goal

pub invariant_of-result : goal.invariant_of-result
invariant_of-result g c = (
  omega (arith, c.if-this-gt-MAX_RANKS.false),
  all_none_ranked g.row.K c.args.size c.from.result.items (c.from.ensures ∙ c.in_ok-no_places.ensures),
)

pub returns-clause-value : goal.returns-clause-value
returns-clause-value g c =
    none_value g.row.K c.args.size c.from.result.items (c.from.ensures ∙ c.in_ok-no_places.ensures)

pub returns-clause-is_value : goal.returns-clause-is_value
returns-clause-is_value g c =
    none_has g.row.K c.args.size c.from.result.items (c.from.ensures ∙ c.in_ok-no_places.ensures)
