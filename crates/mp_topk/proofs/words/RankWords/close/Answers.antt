use Rattle.std.proofs.Common.{◌≡◌, ℕ, ◌*◌, List, [], get_or, ap, subst, sym, ◌∙◌, arith}
use Rattle.mp_topk.specs.Laws.{StandsIn}
use Rattle.mp_topk.specs.Sharing.{RankSeries, count_of, whole_of}
use Rattle.mp_topk.specs.Words.{HeldWords, IsToldOf, WordsAt, nears}
use Rattle.mp_topk.specs.declared.words.WordsView.{WordsView}
use Rattle.mp_topk.proofs.Entering.{whole_count}
use Rattle.mp_topk.proofs.Stepping.{closes}
use Rattle.mp_topk.proofs.words.RankWords.close.Goals as goal

pub close_with-requires : goal.close_with-requires
close_with-requires g c =
    ap (λ (h : HeldWords). h.table) c.hold.view_is ∙ c.requires.hold.table_is
    ∙ sym (ap (λ (w : WordsAt). w.table) c.self.view_is)

pub returns-clause-count : goal.returns-clause-count
returns-clause-count g c =
    let k = g.row.K in
    let key = c.self.inside.table.shared.key in
    c.close_with.ensures.counts.0 ∙ c.self.invariant.entries.words_are ∙ ap (λ n. n * k) (whole_count k key)
    ∙ ap (λ (s : RankSeries). count_of s * k) (ap (λ (w : WordsAt). w.series) c.self.view_is)

pub returns-clause-no_slot : goal.returns-clause-no_slot
returns-clause-no_slot g c = c.close_with.ensures.counts.1 ∙ c.self.invariant.no_slot

pub returns-clause-ranks : goal.returns-clause-ranks
returns-clause-ranks g c = λ place lt.
    let k = g.row.K in
    let key = c.self.inside.table.shared.key in
    let same : key ≡ c.args.self.series = ap (λ (w : WordsAt). w.series) c.self.view_is in
    let seen : c.hold.inside.seat.me.0 ≡ c.args.hold.view = ap (λ (h : HeldWords). h.view) c.hold.view_is in
    let final = c.close_with.ensures.values.2 in
    subst (λ (words : List ℕ). nears words (place * k) k ≡ get_or (whole_of k c.args.self.series) place []) final.2
    (subst (λ (s : RankSeries). nears final.0.words (place * k) k ≡ get_or (whole_of k s) place []) same
    (closes k key final.0 _ _ place final.1.0 final.1.1
    (ap (λ (v : WordsView). v.weight) seen ∙ c.requires.hold.weight_is)
    (ap (λ (v : WordsView). v.carried) seen ∙ c.requires.hold.idle) c.self.invariant.one
    (omega (arith, lt, whole_count k key, ap count_of same))
    (λ near stands. subst (λ (v : WordsView). IsToldOf k v place near) (sym seen)
    (c.requires.all place lt near
    (subst (λ (s : RankSeries). StandsIn near (get_or (whole_of k s) place [])) same stands)))))
