use Rattle.std.proofs.Common.{◌≡◌, sym, subst, ap, ◌∙◌}
use Rattle.std.specs.Prelude.{IfSome}
use Rattle.mp_topk.specs.Ranking.{merged_lists}
use Rattle.mp_topk.specs.Sharing.{HasMore, RankSeries, series_in, whole_of}
use Rattle.mp_topk.proofs.Entering.{none_taken}
use Rattle.mp_topk.proofs.shared_ranks.SharedRanks.take.Goals as goal

pub returns-in-Some-clause-more : goal.returns-in-Some-clause-more
returns-in-Some-clause-more g c =
    let old = c.args.into.now.lists in
    let series : c.in-Some.entries ≡ series_in c.args.self.now =
    subst (λ o. IfSome o (λ (e : RankSeries). e ≡ series_in c.self.inside.tiles.now)) c.in-Some.is
    c.self.invariant.of_series ∙ ap series_in c.self.view_is in
    let first = none_taken g.row.K c.size-places.result (whole_of g.row.K c.in-Some.entries) old
    c.size-places.ensures.is_value
    (subst (λ s. merged_lists g.row.K old (whole_of g.row.K s) ≡ whole_of g.row.K s) (sym series) c.requires.within) in
    subst (λ s. HasMore g.row.K (whole_of g.row.K s) old c.take-in-Some.new.into.lists) series
    (c.take-in-Some.ensures.more old (c.take.ensures.more old first))

pub returns-in_default-clause-more : goal.returns-in_default-clause-more
returns-in_default-clause-more g c =
    none_taken g.row.K c.size-places.result (whole_of g.row.K (series_in c.args.self.now)) c.args.into.now.lists
    c.size-places.ensures.is_value c.requires.within
