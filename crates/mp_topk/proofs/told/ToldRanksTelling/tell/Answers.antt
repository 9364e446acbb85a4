use Rattle.std.proofs.Common.{sym, ap, subst, ◌∙◌}
use Rattle.mp_topk.specs.declared.words.WordsView.{WordsView}
use Rattle.mp_topk.specs.Words.{HeldWords, IsPieceKnown, RankTiling, WordsAt}
use Rattle.mp_topk.specs.WordLaws.{still_told}
use Rattle.mp_topk.proofs.RankTelling.{piece_known, piece_more}
use Rattle.mp_topk.proofs.told.ToldRanksTelling.tell.Goals as goal

pub returns-clause-told : goal.returns-clause-told
returns-clause-told g c =
    let k = g.row.K in
    subst (λ (t : RankTiling). IsPieceKnown k t.own c.into_hold.result.view c.args.piece) c.self.view_is
    (subst (λ (v : WordsView). IsPieceKnown k c.self.inside.tiles.now v c.args.piece) (sym c.into_hold.ensures.view)
    (piece_known k c.self.inside.tiles.now c.of-teller.result c.offer.new.into c.args.piece
    (ap (λ (w : WordsAt). w.series) c.of-teller.ensures.words ∙ c.self.invariant.series_is) c.offer.ensures))

pub returns-clause-more : goal.returns-clause-more
returns-clause-more g c = λ other known.
    let k = g.row.K in
    subst (λ (v : WordsView). IsPieceKnown k c.args.self.now.own v other) (sym c.into_hold.ensures.view)
    (piece_more k c.args.self.now.own c.of-teller.result.view c.offer.new.into.view other
    (λ place near told. still_told k c.of-teller.result.view c.offer.new.into.view place near c.offer.ensures.more told)
    (subst (λ (v : WordsView). IsPieceKnown k c.args.self.now.own v other)
    (sym (c.of-teller.ensures.view ∙ ap (λ (h : HeldWords). h.view) c.replace-own.ensures.value)) known))
