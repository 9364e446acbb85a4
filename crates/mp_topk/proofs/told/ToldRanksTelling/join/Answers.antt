use Rattle.std.proofs.Common.{sym, subst}
use Rattle.mp_topk.specs.declared.words.WordsView.{WordsView}
use Rattle.mp_topk.specs.Words.{IsPieceKnown, both_views}
use Rattle.mp_topk.proofs.RankTelling.{piece_more, told_first, told_second}
use Rattle.mp_topk.proofs.told.ToldRanksTelling.join.Goals as goal

pub returns-clause-told : goal.returns-clause-told
returns-clause-told g c = λ piece known.
    let view = c.args.hold.now.view in
    let other = c.args.other.view in
    subst (λ (v : WordsView). IsPieceKnown g.row.K c.args.self.now.own v piece) (sym c.join.ensures.view)
    (piece_more g.row.K c.args.self.now.own view (both_views view other) piece (told_first g.row.K view other) known)

pub returns-clause-others : goal.returns-clause-others
returns-clause-others g c = λ piece known.
    let view = c.args.hold.now.view in
    let other = c.args.other.view in
    subst (λ (v : WordsView). IsPieceKnown g.row.K c.args.self.now.own v piece) (sym c.join.ensures.view)
    (piece_more g.row.K c.args.self.now.own other (both_views view other) piece (told_second g.row.K view other) known)
