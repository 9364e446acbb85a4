use Rattle.std.proofs.Common.{◌∙◌, [], ap, get_or, map, subst, sym}
use Rattle.mp_defs.specs.Least.{near_at}
use Rattle.mp_topk.specs.Ranking.{Ranked, those_in}
use Rattle.mp_topk.specs.TakingLaws.{GivesNothing}
use Rattle.mp_topk.proofs.Whole.{same_there}
use Rattle.mp_topk.proofs.compact_ranks.CompactRanks.may_take.Goals as goal

pub returns : goal.returns
returns g c is = subst (λ list. GivesNothing g.row.K list (near_at c.args.j c.args.dist.0))
    (ap (λ places. get_or (map those_in places) c.args.i []) c.as_slice.ensures.value
    ∙ sym (same_there g.row.K c.self.inside.size c.args.i c.self.inside.places.items)
    ∙ ap (λ (r : Ranked). get_or r.lists c.args.i []) c.self.view_is)
    (c.may_take_at.ensures (near_at c.args.j c.args.dist.0) c.of.ensures is)
