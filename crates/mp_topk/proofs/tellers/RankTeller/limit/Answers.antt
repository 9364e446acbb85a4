use Rattle.std.proofs.Common.{◌<◌, [], get_or, ap, subst, sym, ◌∙◌, arith}
use Rattle.mp_defs.specs.Least.{near_at}
use Rattle.mp_topk.specs.Laws.{StandsIn}
use Rattle.mp_topk.specs.Sharing.{RankSeries, whole_of}
use Rattle.mp_topk.specs.Words.{RankTellerState}
use Rattle.mp_topk.proofs.Knowing.{before_below, before_within}
use Rattle.mp_topk.proofs.tellers.RankTeller.limit.Goals as goal

pub returns-in-Some : goal.returns-in-Some
returns-in-Some g c = λ j d from le there.
    let series = ap (λ (t : RankTellerState). t.words.series) c.self.view_is in
    let lt : c.in-Some.near.index < j = omega (arith, from, c.if-near-first.true) in
    c.last.ensures c.in-Some.near (near_at j d)
    (sym c.of_word.ensures ∙ sym c.slot.ensures ∙ c.in-Some.is) (before_below c.in-Some.near j d le lt)
    (subst (λ (s : RankSeries). StandsIn (near_at j d) (get_or (whole_of g.row.K s) c.args.place []))
    (sym series) there)

pub returns-in-Some-2 : goal.returns-in-Some-2
returns-in-Some-2 g c = λ j d from lt there.
    let series = ap (λ (t : RankTellerState). t.words.series) c.self.view_is in
    c.last.ensures c.in-Some.near (near_at j d)
    (sym c.of_word.ensures ∙ sym c.slot.ensures ∙ c.in-Some.is) (before_within c.in-Some.near j d lt)
    (subst (λ (s : RankSeries). StandsIn (near_at j d) (get_or (whole_of g.row.K s) c.args.place []))
    (sym series) there)
