use Rattle.std.proofs.Common.{arith}
use Rattle.std.proofs.lemmas.Result.{IfOk-weaker}
use Rattle.mp_defs.specs.Series.{series_of}
use Rattle.mp_topk.specs.Ranking.{lists_in}
use Rattle.mp_topk.proofs.Listing.{are_ranks_of}
use Rattle.mp_topk.proofs.profiles.nearest.Goals as goal

pub returns-in-1 : goal.returns-in-1
returns-in-1 g c = IfOk-weaker c.lists_of_tiles.result _ _ (λ lists e.
    are_ranks_of c.args.k 1 c.args.m (series_of c.args.samples.now) (lists_in lists.items) _ c.in-1.is e
    c.new.ensures.together) c.lists_of_tiles.ensures

pub returns-in-2 : goal.returns-in-2
returns-in-2 g c = IfOk-weaker c.lists_of_tiles-in-2.result _ _ (λ lists e.
    are_ranks_of c.args.k 2 c.args.m (series_of c.args.samples.now) (lists_in lists.items) _ c.in-2.is e
    c.new-in-2.ensures.together) c.lists_of_tiles-in-2.ensures

pub returns-in-3 : goal.returns-in-3
returns-in-3 g c = IfOk-weaker c.lists_of_tiles-in-3.result _ _ (λ lists e.
    are_ranks_of c.args.k 3 c.args.m (series_of c.args.samples.now) (lists_in lists.items) _ c.in-3.is e
    c.new-in-3.ensures.together) c.lists_of_tiles-in-3.ensures

pub returns-in_default : goal.returns-in_default
returns-in_default g c = IfOk-weaker c.lists_of_tiles-in_default.result _ _ (λ lists e.
    are_ranks_of c.args.k 4 c.args.m (series_of c.args.samples.now) (lists_in lists.items) _
    (omega (arith, c.requires.one, c.requires.few, c.in_default)) e
    c.new-in_default.ensures.together) c.lists_of_tiles-in_default.ensures
