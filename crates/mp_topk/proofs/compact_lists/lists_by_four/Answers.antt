use Rattle.std.proofs.Common.{◌≡◌, map}
use Rattle.std.proofs.lemmas.Result.{IfOk-at_ok}
use Rattle.mp_topk.specs.Ranking.{lists_in, those_in}
use Rattle.mp_topk.proofs.Listing.{listed_together}
use Rattle.mp_topk.proofs.compact_lists.lists_by_four.Goals as goal

pub returns : goal.returns
returns g c = listed_together _ c.args.places.now c.split_at.result.0.now c.split_at.result.1.now _ _ _
    c.split_at.ensures.front c.split_at.ensures.back
    (IfOk-at_ok (λ v. lists_in v.items ≡ map those_in c.split_at.result.0.now) c.in_ok-lists.was
    c.join-first.ensures.first)
    (IfOk-at_ok (λ v. lists_in v.items ≡ map those_in c.split_at.result.1.now) c.in_ok-others.was
    c.join-first.ensures.second)
    c.in_ok-append.ensures.items
